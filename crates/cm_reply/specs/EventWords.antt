-- Inside.
-- The first word of an event's text, and what follows it. The reader of a journal goes by the word.
use Rattle.std.specs.Prelude.{◌≡◌, ℕ, List, ◌∷◌, ◌++◌, codes, decimal, Bool, Option, Some, None}
use Rattle.std.specs.Prelude.{if◌then◌else◌}
use Rattle.std.specs.Str.{bytes_eq}
use Rattle.cm_names.specs.Moniker.{moniker_text}
use Rattle.cm_names.specs.declared.moniker.Moniker.{Moniker}
use Rattle.cm_decl.specs.declared.rows.Give.{Give}
use Rattle.cm_world.specs.declared.action.ActKind.{ActKind}
use Rattle.cm_world.specs.declared.action.Finish.{Finish}
use Rattle.cm_world.specs.declared.event.Event.{Event}
use Rattle.cm_world.specs.declared.event.Event.TheVariants as event
use Rattle.cm_world.specs.Create.{child_with}
use Rattle.cm_reply.specs.Lists.{TextBytes}
use Rattle.cm_reply.specs.States.{act_word}
use Rattle.cm_reply.specs.Events.{mark_word, finish_text, groups_text, event_text}
use Rattle.cm_reply.specs.declared.event_words.EventWord.{EventWord}
use Rattle.cm_reply.specs.declared.event_words.EventWord.TheVariants as word

-- the word of an event's text
abbrev pub word_of : EventWord → TextBytes
word_of word.Find = codes "find"
word_of word.Begin = codes "begin"
word_of word.End = codes "end"
word_of word.Await = codes "await"
word_of word.Create = codes "create"
word_of word.Mark = codes "mark"
word_of word.Pick = codes "pick"
word_of word.Purge = codes "purge"
word_of word.Route = codes "route"
word_of word.Open = codes "open"
word_of word.OpenExposed = codes "open-exposed"
word_of word.List = codes "list"
word_of word.Show = codes "show"
word_of word.Survey = codes "survey"
word_of word.Exited = codes "exited"
word_of word.Tail = codes "tail"
word_of word.Reap = codes "reap"

-- the kind of event whose text begins with this word, if there is one
abbrev pub event_named : TextBytes → Option EventWord
event_named t =
    if bytes_eq t (codes "find") then Some word.Find
    else if bytes_eq t (codes "begin") then Some word.Begin
    else if bytes_eq t (codes "end") then Some word.End
    else if bytes_eq t (codes "await") then Some word.Await
    else if bytes_eq t (codes "create") then Some word.Create
    else if bytes_eq t (codes "mark") then Some word.Mark
    else if bytes_eq t (codes "pick") then Some word.Pick
    else if bytes_eq t (codes "purge") then Some word.Purge
    else if bytes_eq t (codes "route") then Some word.Route
    else if bytes_eq t (codes "open") then Some word.Open
    else if bytes_eq t (codes "open-exposed") then Some word.OpenExposed
    else if bytes_eq t (codes "list") then Some word.List
    else if bytes_eq t (codes "show") then Some word.Show
    else if bytes_eq t (codes "survey") then Some word.Survey
    else if bytes_eq t (codes "exited") then Some word.Exited
    else if bytes_eq t (codes "tail") then Some word.Tail
    else if bytes_eq t (codes "reap") then Some word.Reap
    else None

-- the data that an event of this kind tells after its word
abbrev pub Told : EventWord → Type 0
Told word.Find = Moniker
Told word.Begin = ActKind × ℕ
Told word.End = ℕ × Finish
Told word.Await = ℕ
Told word.Create = ℕ × (TextBytes × (TextBytes × (TextBytes × List Give)))
Told word.Mark = Bool × ℕ
Told word.Pick = ℕ
Told word.Purge = ℕ
Told word.Route = ℕ × TextBytes
Told word.Open = ℕ × TextBytes
Told word.OpenExposed = ℕ × TextBytes
Told word.List = ℕ × TextBytes
Told word.Show = ℕ
Told word.Survey = ℕ
Told word.Exited = ℕ
Told word.Tail = ℕ × ℕ
Told word.Reap = ℕ

-- the event of this kind with these data
abbrev pub event_of : (v : EventWord) → Told v → Event
event_of word.Find m = event.Find m
event_of word.Begin x = event.Begin x.0 x.1
event_of word.End x = event.End x.0 x.1
event_of word.Await a = event.Await a
event_of word.Create x = event.Create x.0 (child_with x.1.0 x.1.1.0 x.1.1.1.0 x.1.1.1.1)
event_of word.Mark x = event.Mark x.0 x.1
event_of word.Pick i = event.Pick i
event_of word.Purge i = event.Purge i
event_of word.Route x = event.Route x.0 x.1
event_of word.Open x = event.OpenUse x.0 x.1
event_of word.OpenExposed x = event.OpenExposed x.0 x.1
event_of word.List x = event.Listing x.0 x.1
event_of word.Show i = event.Show i
event_of word.Survey i = event.Survey i
event_of word.Exited i = event.Exited i
event_of word.Tail x = event.Tail x.0 x.1
event_of word.Reap i = event.Reap i

-- a number, a space and a text
abbrev pub numbered : ℕ → TextBytes → TextBytes
numbered n t = decimal n ++ (codes " " ++ t)

-- how these data are written after the word
abbrev pub told_text : (v : EventWord) → Told v → TextBytes
told_text word.Find m = moniker_text m
told_text word.Begin x = act_word x.0 ++ (codes " " ++ decimal x.1)
told_text word.End x = numbered x.0 (finish_text x.1)
told_text word.Await a = decimal a
told_text word.Create x =
    numbered x.0 (x.1.0 ++ (codes " " ++ (x.1.1.0 ++ (codes " " ++ (x.1.1.1.0 ++ groups_text x.1.1.1.1)))))
told_text word.Mark x = mark_word x.0 ++ (codes " " ++ decimal x.1)
told_text word.Pick i = decimal i
told_text word.Purge i = decimal i
told_text word.Route x = numbered x.0 x.1
told_text word.Open x = numbered x.0 x.1
told_text word.OpenExposed x = numbered x.0 x.1
told_text word.List x = numbered x.0 x.1
told_text word.Show i = decimal i
told_text word.Survey i = decimal i
told_text word.Exited i = decimal i
told_text word.Tail x = numbered x.0 (decimal x.1)
told_text word.Reap i = decimal i

-- the event's text is its word, a space, and its data
pub record IsTold (e : Event) : Type 0 where
  pub word : EventWord
  pub told : Told word
  pub event : event_of word told ≡ e
  pub text : event_text e ≡ word_of word ++ 32 ∷ told_text word told

-- each event's text is its word, a space, and its data
abbrev pub EachIsTold : Type 0
EachIsTold = (e : Event) → IsTold e
