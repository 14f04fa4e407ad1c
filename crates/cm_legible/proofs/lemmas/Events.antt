-- The texts of legible events, and of what a journal begins with, stand on one line.
use Rattle.std.proofs.Common.{◌≡◌, ℕ, List, [], ◌∷◌, ◌++◌, flat_map, Bool, true, false, cond, Option, Some, None, All, IsTrue, decimal, refl, sym, subst, codes}
use Rattle.std.specs.Prelude.{IfSome}
use Rattle.std.specs.List.{list_all}
use Rattle.std.specs.Str.{bytes_eq}
use Rattle.std.proofs.lemmas.List.Elements.{All-cons, All-append, All-tail, All-nil}
use Rattle.std.proofs.lemmas.Bool.{and_from}
use Rattle.cm_names.specs.declared.availability.Availability.{Availability}
use Rattle.cm_names.specs.declared.availability.Availability.TheVariants as availability
use Rattle.cm_names.specs.declared.dependency.Dependency.{Dependency}
use Rattle.cm_names.specs.declared.dependency.Dependency.TheVariants as dependency
use Rattle.cm_names.specs.Child.{child_text}
use Rattle.cm_names.specs.Moniker.{moniker_text}
use Rattle.cm_names.specs.Name.{IsName}
use Rattle.cm_names.specs.Path.{is_path, is_subdir}
use Rattle.cm_names.specs.Rights.{RightSet, text_of}
use Rattle.cm_names.specs.Urls.{is_url_byte}
use Rattle.cm_decl.specs.declared.kind.Kind.{Kind}
use Rattle.cm_decl.specs.declared.kind.Kind.TheVariants as kind
use Rattle.cm_decl.specs.declared.origin.Origin.{Origin}
use Rattle.cm_decl.specs.declared.origin.Origin.TheVariants as origin
use Rattle.cm_decl.specs.declared.rows.Give.{Give}
use Rattle.cm_decl.specs.Words.{kind_word}
use Rattle.cm_write.specs.Writing.{decl_text, decl_data}
use Rattle.cm_world.specs.declared.action.ActKind.{ActKind}
use Rattle.cm_world.specs.declared.action.ActKind.TheVariants as act
use Rattle.cm_world.specs.declared.action.Finish.{Finish}
use Rattle.cm_world.specs.declared.action.Finish.TheVariants as finish
use Rattle.cm_world.specs.declared.event.Event.{Event}
use Rattle.cm_world.specs.declared.event.Event.TheVariants as event
use Rattle.cm_world.specs.declared.frame.Builtin.{Builtin}
use Rattle.cm_command.specs.Words.{IsUrlText}
use Rattle.cm_command.specs.Written.{IsWritableGive, IsWritableOrigin, HasParts, origin_text, target_word, rights_word, subdir_word, dependency_word, availability_word, give_words, spaced}
use Rattle.cm_reply.specs.Lists.{TextBytes, when_some}
use Rattle.cm_reply.specs.States.{act_word, outcome_text}
use Rattle.cm_reply.specs.Events.{mark_word, finish_text, event_text}
use Rattle.cm_reply.specs.Journal.{builtin_text, builtin_words, provided_rights}
use Rattle.cm_reply.specs.Legible.{IsLegible, IsLegibleFinish, IsLegibleBuiltin, IsLegibleAs}
use Rattle.cm_legible.proofs.lemmas.Lists.{head}
use Rattle.cm_legible.proofs.lemmas.Paths.{path_is_long, subdir_prints}
use Rattle.cm_legible.proofs.lemmas.Json.{OneLine, is_inner, one_line-append, decimal_line, compact_line}
use Rattle.cm_legible.proofs.lemmas.Words.{Clean, clean_line, name_clean, child_clean, moniker_clean, rights_clean, path_line, url_line}
use Rattle.cm_legible.proofs.lemmas.Texts.{outcome_raw}

-- a text on one line, by its parts
pub record Line (t : TextBytes) : Type 0 where
  pub bytes : OneLine t

-- A text without a line feed stands on one line.
pub lit : (t : TextBytes) → OneLine t → Line t
lit t h = record { bytes = h }

-- Two texts that each stand on one line make one that does.
pub join : {s t : TextBytes} → Line s → Line t → Line (s ++ t)
join {s} {t} h k = record { bytes = one_line-append s t h.bytes k.bytes }

-- A decimal number stands on one line.
pub num : (n : ℕ) → Line (decimal n)
num n = lit (decimal n) (decimal_line n)

-- A text of printing bytes without `>` stands on one line.
pub clean : {t : TextBytes} → Clean t → Line t
clean {t} h = lit t (clean_line t h)

-- A name stands on one line.
name : (t : TextBytes) → IsName t → Line t
name t h = clean {t = t} (name_clean t h)

-- A path stands on one line.
pub path : (t : TextBytes) → IsTrue (is_path t) → Line t
path t h = lit t (path_line t (path_is_long t h))

-- Where each byte of a text is one of URLs, the test finds all of them to be.
pub url_bytes : (t : TextBytes) → All (λ b. IsTrue (is_url_byte b)) t → list_all is_url_byte t ≡ true
url_bytes [] h = refl
url_bytes (b ∷ bs) h = and_from (is_url_byte b) (list_all is_url_byte bs) (head (λ b. IsTrue (is_url_byte b)) b bs h) (url_bytes bs (All-tail (λ b. IsTrue (is_url_byte b)) b bs h))

-- A URL stands on one line.
pub url : (t : TextBytes) → IsUrlText t → Line t
url t h = lit t (url_line t (url_bytes t h.bytes))

-- A space stands on one line.
space : Line (codes " ")
space = lit (codes " ") refl

-- The word for a kind of actions has no line feed.
act_line : (k : ActKind) → OneLine (act_word k)
act_line act.Resolve = refl
act_line act.Start = refl
act_line act.Stop = refl

-- The word for a mark has no line feed.
mark_line : (b : Bool) → OneLine (mark_word b)
mark_line true = refl
mark_line false = refl

-- ---- what is given

-- The word for a kind of capabilities has no line feed.
kind_line : (k : Kind) → OneLine (kind_word k)
kind_line kind.Protocol = refl
kind_line kind.Directory = refl

-- words, each on one line
abbrev Lines : List TextBytes → Type 0
Lines ws = All OneLine ws

-- A word on one line is a list of such words.
one : (w : TextBytes) → OneLine w → Lines (w ∷ [])
one w h = All-cons OneLine w [] h (All-nil OneLine)

-- The text of an origin that can be written has no line feed.
origin_line : (o : Origin) → IsWritableOrigin o → OneLine (origin_text o)
origin_line origin.Parent h = refl
origin_line origin.Own h = refl
origin_line origin.Framework h = refl
origin_line origin.Void h = refl
origin_line (origin.Child c) h = and_from true _ refl (clean_line (child_text c) (child_clean c h))

-- The word for a target name, where there is one, has no line feed.
target_lines : (b : Bool) (t : TextBytes) → IsName t → Lines (cond b [] ((codes "as=" ++ t) ∷ []))
target_lines true t h = All-nil OneLine
target_lines false t h = one (codes "as=" ++ t) (one_line-append (codes "as=") t refl (clean_line t (name_clean t h)))

-- The word for rights, where there is one, has no line feed.
rights_lines : (o : Option RightSet) → Lines (rights_word o)
rights_lines None = All-nil OneLine
rights_lines (Some r) = one (codes "rights=" ++ text_of r) (one_line-append (codes "rights=") (text_of r) refl (clean_line (text_of r) (rights_clean r)))

-- The word for a subdirectory, where there is one and it is proper, has no line feed.
subdir_lines : (o : Option TextBytes) → IfSome o (λ t. IsTrue (is_subdir t)) → Lines (subdir_word o)
subdir_lines None h = All-nil OneLine
subdir_lines (Some t) h = one (codes "subdir=" ++ t) (one_line-append (codes "subdir=") t refl (url_line t (subdir_prints t h)))

-- The word for a dependency, where there is one, has no line feed.
dependency_lines : (d : Dependency) → Lines (dependency_word d)
dependency_lines dependency.Strong = All-nil OneLine
dependency_lines dependency.Weak = one (codes "weak") refl

-- The word for an availability, where there is one, has no line feed.
availability_lines : (a : Availability) → Lines (availability_word a)
availability_lines availability.Required = All-nil OneLine
availability_lines availability.Optional = one (codes "optional") refl
availability_lines availability.Transitional = one (codes "transitional") refl
availability_lines availability.SameAsTarget = one (codes "same_as_target") refl

-- The subdirectory that may be stated for a kind, where there is one, is proper.
parts_subdir : (k : Kind) (r : Option RightSet) (s : Option TextBytes) → HasParts k r s → IfSome s (λ t. IsTrue (is_subdir t))
parts_subdir kind.Protocol r s h = subst (λ o. IfSome o (λ t. IsTrue (is_subdir t))) (sym h.1) tt
parts_subdir kind.Directory r s h = h.1

-- words, each on one line, by their parts
record Words (ws : List TextBytes) : Type 0 where
  all : Lines ws

-- No words at all stand each on one line.
no_word : Words []
no_word = record { all = All-nil OneLine }

-- A word on one line, put before words that are, gives words that are.
word : {w : TextBytes} {ws : List TextBytes} → Line w → Words ws → Words (w ∷ ws)
word {w} {ws} h k = record { all = All-cons OneLine w ws h.bytes k.all }

-- Words each on one line, put before others such, are so together.
more : {ws xs : List TextBytes} → Words ws → Words xs → Words (ws ++ xs)
more {ws} {xs} h k = record { all = All-append OneLine ws xs h.all k.all }

-- A list of texts without a line feed are words each on one line.
these : (ws : List TextBytes) → Lines ws → Words ws
these ws h = record { all = h }

-- The words of an offer that can be written stand each on one line.
give_lines : (g : Give) → IsWritableGive g → Words (give_words g)
give_lines g h =
    word (lit (codes "+") refl) (word (lit (kind_word g.kind) (kind_line g.kind)) (word (name g.source_name h.source_name) (word (lit (origin_text g.from) (origin_line g.from h.from))
    (more (these (target_word g) (target_lines (bytes_eq g.target_name g.source_name) g.target_name h.target_name))
    (more (these (rights_word g.rights) (rights_lines g.rights)) (more (these (subdir_word g.subdir) (subdir_lines g.subdir (parts_subdir g.kind g.rights g.subdir h.parts)))
    (more (these (dependency_word g.dependency) (dependency_lines g.dependency)) (these (availability_word g.availability) (availability_lines g.availability)))))))))

-- The words of offers that can be written have no line feed.
gives_lines : (gs : List Give) → All IsWritableGive gs → Lines (flat_map give_words gs)
gives_lines [] h = All-nil OneLine
gives_lines (g ∷ gs) h = All-append OneLine (give_words g) (flat_map give_words gs) (give_lines g (head IsWritableGive g gs h)).all (gives_lines gs (All-tail IsWritableGive g gs h))

-- Words without a line feed, each behind a space, stand on one line.
spaced_line : (ws : List TextBytes) → Lines ws → Line (flat_map spaced ws)
spaced_line [] h = lit [] refl
spaced_line (w ∷ ws) h = join (lit (spaced w) (and_from true (list_all is_inner w) refl (head OneLine w ws h))) (spaced_line ws (All-tail OneLine w ws h))

-- ---- events

-- The text of a legible finish of an action stands on one line.
finish_line : (f : Finish) → IsLegibleFinish f → Line (finish_text f)
finish_line (finish.Resolved u d) h = join (lit (codes "resolved ") refl) (join (url u h.0) (join space (lit (decl_text d) (compact_line (decl_data d)))))
finish_line (finish.Other o) h = clean {t = outcome_text o} (outcome_raw o)

-- A word without a line feed and a number behind it stand on one line.
numbered : (w : TextBytes) (n : ℕ) → OneLine w → Line (w ++ decimal n)
numbered w n h = join (lit w h) (num n)

-- A word, a number and a text, each without a line feed, stand on one line.
noted : (w : TextBytes) (n : ℕ) {t : TextBytes} → OneLine w → Line t → Line (w ++ (decimal n ++ (codes " " ++ t)))
noted w n h k = join (lit w h) (join (num n) (join space k))

-- The text of a legible event stands on one line.
pub event_line : (e : Event) → IsLegible e → Line (event_text e)
event_line (event.Find m) h = join (lit (codes "find ") refl) (clean {t = moniker_text m} (moniker_clean m h.0))
event_line (event.Begin k i) h = join (lit (codes "begin ") refl) (join (lit (act_word k) (act_line k)) (join space (num i)))
event_line (event.End a f) h = noted (codes "end ") a refl (finish_line f h.1)
event_line (event.Await a) h = numbered (codes "await ") a refl
event_line (event.Create i child) h =
    noted (codes "create ") i refl (join (name child.coll h.1) (join space (join (name child.name h.2) (join space (join (url child.url h.3) (spaced_line (flat_map give_words child.gives) (gives_lines child.gives h.4)))))))
event_line (event.Mark doomed i) h = join (lit (codes "mark ") refl) (join (lit (mark_word doomed) (mark_line doomed)) (join space (num i)))
event_line (event.Pick i) h = numbered (codes "pick ") i refl
event_line (event.Purge i) h = numbered (codes "purge ") i refl
event_line (event.Route i p) h = noted (codes "route ") i refl (path p h.1)
event_line (event.OpenUse i p) h = noted (codes "open ") i refl (path p h.1)
event_line (event.OpenExposed i n) h = noted (codes "open-exposed ") i refl (name n h.1)
event_line (event.Listing i n) h = noted (codes "list ") i refl (name n h.1)
event_line (event.Show i) h = numbered (codes "show ") i refl
event_line (event.Survey i) h = numbered (codes "survey ") i refl
event_line (event.Exited i) h = numbered (codes "exited ") i refl
event_line (event.Tail i from) h = noted (codes "tail ") i refl (num from)
event_line (event.Reap i) h = numbered (codes "reap ") i refl

-- ---- builtins

-- The rights that a builtin provides, where they are told, stand on one line.
provided_line : (o : Option RightSet) → Line (when_some provided_rights o)
provided_line None = lit [] refl
provided_line (Some r) = join space (clean {t = text_of r} (rights_clean r))

-- The words of a legible builtin capability stand on one line.
words_line : (k : Kind) (b : Builtin) → IsName b.name → IsLegibleAs k b → Line (builtin_words k b)
words_line kind.Protocol b n h = join (lit (codes "protocol ") refl) (name b.name n)
words_line kind.Directory b n h = join (lit (codes "directory ") refl) (join (name b.name n) (join space (join (path b.path h.0) (provided_line b.rights))))

-- The text of a legible builtin stands on one line.
pub builtin_one_line : (b : Builtin) → IsLegibleBuiltin b → Line (builtin_text b)
builtin_one_line b h = join (lit (codes "builtin ") refl) (words_line b.kind b h.name h.stands)
