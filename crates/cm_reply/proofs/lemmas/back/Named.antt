-- Words of events, outcomes and sections, which are found again.
use Rattle.std.proofs.Common.{◌≡◌, ℕ, List, ◌++◌, codes, Bool, true, false, nat_lt, ◌==◌, get_or, drop, true≢false, Option, Some, None, Result, IsUtf8, refl, sym, ap, subst, ◌∙◌}
use Rattle.std.specs.List.{list_all}
use Rattle.cm_decl.specs.Words.{section_word}
use Rattle.cm_decl.specs.declared.section.Section.{Section}
use Rattle.cm_decl.specs.declared.section.Section.TheVariants as section
use Rattle.cm_world.specs.declared.action.ActKind.{ActKind}
use Rattle.cm_world.specs.declared.action.ActKind.TheVariants as act
use Rattle.cm_world.specs.declared.action.FaultNote.{FaultNote}
use Rattle.cm_decl.specs.declared.decl.Decl.{Decl}
use Rattle.cm_read.specs.Writing.{decl_text}
use Rattle.cm_world.specs.declared.action.Finish.{Finish}
use Rattle.cm_world.specs.declared.action.Finish.TheVariants as finish
use Rattle.cm_world.specs.declared.action.Outcome.{Outcome}
use Rattle.cm_world.specs.declared.action.Outcome.TheVariants as outcome
use Rattle.cm_world.specs.declared.event.Event.{Event}
use Rattle.cm_world.specs.declared.event.Event.TheVariants as event
use Rattle.cm_command.proofs.lemmas.bytes.Pieces.{Lacks}
use Rattle.cm_command.proofs.lemmas.written.Written.{lacks_by}
use Rattle.cm_reply.specs.States.{act_word, outcome_text}
use Rattle.cm_reply.specs.Events.{mark_word, finish_text}
use Rattle.cm_reply.specs.Legible.{IsLegible}
use Rattle.cm_reply.specs.EventWords.{Told, event_of, told_text, word_of, event_named, EachIsTold}
use Rattle.cm_reply.specs.Reading.{FindsEvent, IsOr, outcome_named, section_named, IsPlain, note_words}
use Rattle.cm_reply.specs.declared.entry_words.EntryFault.{EntryFault}
use Rattle.cm_reply.specs.declared.event_words.EventWord.{EventWord}
use Rattle.cm_reply.specs.declared.event_words.EventWord.TheVariants as word
use Rattle.cm_reply.proofs.lemmas.back.Low.{low_utf8, low_by}

-- a word of ASCII is UTF-8
ascii : (t : List ℕ) → list_all (λ b. nat_lt b 128) t ≡ true → IsUtf8 t
ascii t e = low_utf8 t (low_by t e)

-- whether that byte stands at that place
abbrev pub has_at : ℕ → ℕ → List ℕ → Bool
has_at i b t = get_or t i 0 == b

-- ---- events

-- The word of an event is UTF-8.
pub word_utf8 : (v : EventWord) → IsUtf8 (word_of v)
word_utf8 word.Find = ascii (codes "find") refl
word_utf8 word.Begin = ascii (codes "begin") refl
word_utf8 word.End = ascii (codes "end") refl
word_utf8 word.Await = ascii (codes "await") refl
word_utf8 word.Create = ascii (codes "create") refl
word_utf8 word.Mark = ascii (codes "mark") refl
word_utf8 word.Pick = ascii (codes "pick") refl
word_utf8 word.Purge = ascii (codes "purge") refl
word_utf8 word.Route = ascii (codes "route") refl
word_utf8 word.Open = ascii (codes "open") refl
word_utf8 word.OpenExposed = ascii (codes "open-exposed") refl
word_utf8 word.List = ascii (codes "list") refl
word_utf8 word.Show = ascii (codes "show") refl
word_utf8 word.Survey = ascii (codes "survey") refl
word_utf8 word.Exited = ascii (codes "exited") refl
word_utf8 word.Tail = ascii (codes "tail") refl
word_utf8 word.Reap = ascii (codes "reap") refl

-- The word of an event has no space.
pub word_lacks : (v : EventWord) → Lacks 32 (word_of v)
word_lacks word.Find = lacks_by 32 (codes "find") refl
word_lacks word.Begin = lacks_by 32 (codes "begin") refl
word_lacks word.End = lacks_by 32 (codes "end") refl
word_lacks word.Await = lacks_by 32 (codes "await") refl
word_lacks word.Create = lacks_by 32 (codes "create") refl
word_lacks word.Mark = lacks_by 32 (codes "mark") refl
word_lacks word.Pick = lacks_by 32 (codes "pick") refl
word_lacks word.Purge = lacks_by 32 (codes "purge") refl
word_lacks word.Route = lacks_by 32 (codes "route") refl
word_lacks word.Open = lacks_by 32 (codes "open") refl
word_lacks word.OpenExposed = lacks_by 32 (codes "open-exposed") refl
word_lacks word.List = lacks_by 32 (codes "list") refl
word_lacks word.Show = lacks_by 32 (codes "show") refl
word_lacks word.Survey = lacks_by 32 (codes "survey") refl
word_lacks word.Exited = lacks_by 32 (codes "exited") refl
word_lacks word.Tail = lacks_by 32 (codes "tail") refl
word_lacks word.Reap = lacks_by 32 (codes "reap") refl

-- the word of an event is found
pub event_found : (v : EventWord) → event_named (word_of v) ≡ Some v
event_found word.Find = refl
event_found word.Begin = refl
event_found word.End = refl
event_found word.Await = refl
event_found word.Create = refl
event_found word.Mark = refl
event_found word.Pick = refl
event_found word.Purge = refl
event_found word.Route = refl
event_found word.Open = refl
event_found word.OpenExposed = refl
event_found word.List = refl
event_found word.Show = refl
event_found word.Survey = refl
event_found word.Exited = refl
event_found word.Tail = refl
event_found word.Reap = refl

-- Each event's text is its word, a space, and its data.
pub each_is_told_lem : EachIsTold
each_is_told_lem (event.Find m) = record { word = word.Find; told = m; event = refl; text = refl }
each_is_told_lem (event.Begin k i) = record { word = word.Begin; told = (k, i); event = refl; text = refl }
each_is_told_lem (event.End a f) = record { word = word.End; told = (a, f); event = refl; text = refl }
each_is_told_lem (event.Await a) = record { word = word.Await; told = a; event = refl; text = refl }
each_is_told_lem (event.Create i child) = record { word = word.Create; told = (i, (child.coll, (child.name, (child.url, child.gives)))); event = refl; text = refl }
each_is_told_lem (event.Mark d i) = record { word = word.Mark; told = (d, i); event = refl; text = refl }
each_is_told_lem (event.Pick i) = record { word = word.Pick; told = i; event = refl; text = refl }
each_is_told_lem (event.Purge i) = record { word = word.Purge; told = i; event = refl; text = refl }
each_is_told_lem (event.Route i p) = record { word = word.Route; told = (i, p); event = refl; text = refl }
each_is_told_lem (event.OpenUse i p) = record { word = word.Open; told = (i, p); event = refl; text = refl }
each_is_told_lem (event.OpenExposed i n) = record { word = word.OpenExposed; told = (i, n); event = refl; text = refl }
each_is_told_lem (event.Listing i c) = record { word = word.List; told = (i, c); event = refl; text = refl }
each_is_told_lem (event.Show i) = record { word = word.Show; told = i; event = refl; text = refl }
each_is_told_lem (event.Survey i) = record { word = word.Survey; told = i; event = refl; text = refl }
each_is_told_lem (event.Exited i) = record { word = word.Exited; told = i; event = refl; text = refl }
each_is_told_lem (event.Tail i f) = record { word = word.Tail; told = (i, f); event = refl; text = refl }
each_is_told_lem (event.Reap i) = record { word = word.Reap; told = i; event = refl; text = refl }

-- what is found of a word is found of the word that it is
pub finds_same : (v first : EventWord) (t : List ℕ) (result : Result Event EntryFault) → first ≡ v → FindsEvent v t result → FindsEvent first t result
finds_same v first t result same finds = subst (λ w. FindsEvent w t result) (sym same) finds

-- what is found of the word that stands there
pub found_by : (v first : EventWord) (x : Told v) (t : List ℕ) (result : Result Event EntryFault) → first ≡ v → FindsEvent first t result → IsLegible (event_of v x) → t ≡ told_text v x → IsOr result (event_of v x)
found_by v first x t result same finds legible e = finds_same first v t result (sym same) finds x legible e

-- ---- actions and marks

-- The word of an action's kind has no space.
pub kind_lacks : (k : ActKind) → Lacks 32 (act_word k)
kind_lacks act.Resolve = lacks_by 32 (codes "resolve") refl
kind_lacks act.Start = lacks_by 32 (codes "start") refl
kind_lacks act.Stop = lacks_by 32 (codes "stop") refl

-- The word of a mark, to be destroyed or only shut down, has no space.
pub mark_lacks : (doomed : Bool) → Lacks 32 (mark_word doomed)
mark_lacks true = lacks_by 32 (codes "doomed") refl
mark_lacks false = lacks_by 32 (codes "closing") refl

-- ---- outcomes

-- The text of an outcome that is a single word is UTF-8.
pub outcome_utf8 : (o : Outcome) → IsPlain o → IsUtf8 (outcome_text o)
outcome_utf8 outcome.Resolved h = ascii (codes "resolved") refl
outcome_utf8 outcome.Started h = ascii (codes "started") refl
outcome_utf8 outcome.Stopped h = ascii (codes "stopped") refl
outcome_utf8 outcome.Killed h = ascii (codes "killed") refl
outcome_utf8 outcome.Absent h = ascii (codes "absent") refl
outcome_utf8 outcome.BadUrl h = ascii (codes "bad-url") refl
outcome_utf8 outcome.Declined h = ascii (codes "declined") refl
outcome_utf8 outcome.GateFailed h = ascii (codes "gate-failed") refl
outcome_utf8 outcome.Full h = ascii (codes "full") refl
outcome_utf8 outcome.NoMemory h = ascii (codes "no-memory") refl
outcome_utf8 (outcome.Invalid note) h = absurd h

-- An outcome that is written as a single word is found again by its text.
pub outcome_found : (o : Outcome) → IsPlain o → outcome_named (outcome_text o) ≡ Some o
outcome_found outcome.Resolved h = refl
outcome_found outcome.Started h = refl
outcome_found outcome.Stopped h = refl
outcome_found outcome.Killed h = refl
outcome_found outcome.Absent h = refl
outcome_found outcome.BadUrl h = refl
outcome_found outcome.Declined h = refl
outcome_found outcome.GateFailed h = refl
outcome_found outcome.Full h = refl
outcome_found outcome.NoMemory h = refl
outcome_found (outcome.Invalid note) h = absurd h

-- an outcome that begins with the word `invalid` has a fault
pub record IsInvalid (o : Outcome) (rest : List ℕ) : Type 0 where
  pub note : FaultNote
  pub outcome : o ≡ outcome.Invalid note
  pub text : rest ≡ note_words note

-- An outcome whose text begins with the word `invalid` has a fault, which the rest of it tells.
pub invalid_is : (o : Outcome) (rest : List ℕ) → codes "invalid " ++ rest ≡ outcome_text o → IsInvalid o rest
invalid_is outcome.Resolved rest e = absurd (true≢false (ap (has_at 0 105) e))
invalid_is outcome.Started rest e = absurd (true≢false (ap (has_at 0 105) e))
invalid_is outcome.Stopped rest e = absurd (true≢false (ap (has_at 0 105) e))
invalid_is outcome.Killed rest e = absurd (true≢false (ap (has_at 0 105) e))
invalid_is outcome.Absent rest e = absurd (true≢false (ap (has_at 0 105) e))
invalid_is outcome.BadUrl rest e = absurd (true≢false (ap (has_at 0 105) e))
invalid_is outcome.Declined rest e = absurd (true≢false (ap (has_at 0 105) e))
invalid_is outcome.GateFailed rest e = absurd (true≢false (ap (has_at 0 105) e))
invalid_is outcome.Full rest e = absurd (true≢false (ap (has_at 0 105) e))
invalid_is outcome.NoMemory rest e = absurd (true≢false (ap (has_at 0 105) e))
invalid_is (outcome.Invalid note) rest e = record { note = note; outcome = refl; text = ap (drop 8) e }

-- An outcome whose text doesn't begin with `invalid` is a plain one.
pub plain_is : (o : Outcome) (t : List ℕ) → ((rest : List ℕ) → t ≡ codes "invalid " ++ rest → ⊥) → t ≡ outcome_text o → IsPlain o
plain_is (outcome.Invalid note) t none e = absurd (none (note_words note) e)
plain_is outcome.Resolved t none e = tt
plain_is outcome.Started t none e = tt
plain_is outcome.Stopped t none e = tt
plain_is outcome.Killed t none e = tt
plain_is outcome.Absent t none e = tt
plain_is outcome.BadUrl t none e = tt
plain_is outcome.Declined t none e = tt
plain_is outcome.GateFailed t none e = tt
plain_is outcome.Full t none e = tt
plain_is outcome.NoMemory t none e = tt

-- ---- ends

-- no outcome begins with this word and a space
pub resolved_no_outcome : (o : Outcome) (rest : List ℕ) → outcome_text o ≡ codes "resolved " ++ rest → ⊥
resolved_no_outcome outcome.Resolved rest e = true≢false (sym (ap (has_at 8 32) e))
resolved_no_outcome outcome.Started rest e = true≢false (sym (ap (has_at 8 32) e))
resolved_no_outcome outcome.Stopped rest e = true≢false (sym (ap (has_at 8 32) e))
resolved_no_outcome outcome.Killed rest e = true≢false (sym (ap (has_at 8 32) e))
resolved_no_outcome outcome.Absent rest e = true≢false (sym (ap (has_at 8 32) e))
resolved_no_outcome outcome.BadUrl rest e = true≢false (sym (ap (has_at 8 32) e))
resolved_no_outcome (outcome.Invalid note) rest e = true≢false (ap (has_at 0 105) e)
resolved_no_outcome outcome.Declined rest e = true≢false (sym (ap (has_at 8 32) e))
resolved_no_outcome outcome.GateFailed rest e = true≢false (sym (ap (has_at 8 32) e))
resolved_no_outcome outcome.Full rest e = true≢false (sym (ap (has_at 8 32) e))
resolved_no_outcome outcome.NoMemory rest e = true≢false (sym (ap (has_at 8 32) e))

-- an end that begins so brings a declaration
pub record IsResolved (f : Finish) (rest : List ℕ) : Type 0 where
  pub url : List ℕ
  pub decl : Decl
  pub finish : f ≡ finish.Resolved url decl
  pub text : rest ≡ url ++ (codes " " ++ decl_text decl)

-- An end whose text begins with the word `resolved` and a blank brings a declaration.
pub resolved_is : (f : Finish) (rest : List ℕ) → codes "resolved " ++ rest ≡ finish_text f → IsResolved f rest
resolved_is (finish.Resolved u d) rest e = record { url = u; decl = d; finish = refl; text = ap (drop 9) e }
resolved_is (finish.Other o) rest e = absurd (resolved_no_outcome o rest (sym e))

-- An end that brings no declaration is told by its outcome's text.
pub record IsEndedSo (f : Finish) (t : List ℕ) : Type 0 where
  pub outcome : Outcome
  pub finish : f ≡ finish.Other outcome
  pub text : t ≡ outcome_text outcome

-- An end whose text doesn't begin with the word `resolved` and a blank is an outcome.
pub other_is : (f : Finish) (t : List ℕ) → ((rest : List ℕ) → t ≡ codes "resolved " ++ rest → ⊥) → t ≡ finish_text f → IsEndedSo f t
other_is (finish.Resolved u d) t none e = absurd (none (u ++ (codes " " ++ decl_text d)) e)
other_is (finish.Other o) t none e = record { outcome = o; finish = refl; text = e }

-- ---- sections

-- The word of a manifest's section is UTF-8.
pub section_utf8 : (s : Section) → IsUtf8 (section_word s)
section_utf8 section.Manifest = ascii (codes "manifest") refl
section_utf8 section.Program = ascii (codes "program") refl
section_utf8 section.Children = ascii (codes "children") refl
section_utf8 section.Collections = ascii (codes "collections") refl
section_utf8 section.Capabilities = ascii (codes "capabilities") refl
section_utf8 section.Uses = ascii (codes "use") refl
section_utf8 section.Offers = ascii (codes "offer") refl
section_utf8 section.Exposes = ascii (codes "expose") refl
section_utf8 section.Environments = ascii (codes "environments") refl
section_utf8 section.Graph = ascii (codes "graph") refl

-- The word of a manifest's section has no blank in it.
pub section_lacks : (s : Section) → Lacks 32 (section_word s)
section_lacks section.Manifest = lacks_by 32 (codes "manifest") refl
section_lacks section.Program = lacks_by 32 (codes "program") refl
section_lacks section.Children = lacks_by 32 (codes "children") refl
section_lacks section.Collections = lacks_by 32 (codes "collections") refl
section_lacks section.Capabilities = lacks_by 32 (codes "capabilities") refl
section_lacks section.Uses = lacks_by 32 (codes "use") refl
section_lacks section.Offers = lacks_by 32 (codes "offer") refl
section_lacks section.Exposes = lacks_by 32 (codes "expose") refl
section_lacks section.Environments = lacks_by 32 (codes "environments") refl
section_lacks section.Graph = lacks_by 32 (codes "graph") refl

-- A manifest's section is found again by its word.
pub section_found : (s : Section) → section_named (section_word s) ≡ Some s
section_found section.Manifest = refl
section_found section.Program = refl
section_found section.Children = refl
section_found section.Collections = refl
section_found section.Capabilities = refl
section_found section.Uses = refl
section_found section.Offers = refl
section_found section.Exposes = refl
section_found section.Environments = refl
section_found section.Graph = refl
