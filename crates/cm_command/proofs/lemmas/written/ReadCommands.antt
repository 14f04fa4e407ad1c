-- What a line asks for is a command in the grammar, and so can be written.
use Rattle.std.proofs.Common.{◌≡◌, ◌≢◌, ◌⊎◌, inl, inr, ℕ, ◌≤◌, List, [], ◌∷◌, ◌++◌, length, codes, Bool, true, false, true≢false, ◌==◌, if◌then◌else◌, Option, Some, None, option_map, Result, Ok, Err, All, IsTrue, refl, sym, ap, subst, ◌∙◌, arith}
use Rattle.std.specs.Str.{bytes_eq}
use Rattle.std.specs.List.{slice_split, list_any}
use Rattle.std.proofs.lemmas.Option.{none-some}
use Rattle.std.proofs.lemmas.List.Elements.{All-cons, All-nil}
use Rattle.cm_names.specs.declared.child.ChildName.{ChildName}
use Rattle.cm_names.specs.declared.moniker.Moniker.{Moniker}
use Rattle.cm_names.specs.declared.rights.Right.{Right}
use Rattle.cm_names.specs.declared.rights.Right.TheVariants.{Connect}
use Rattle.cm_names.specs.declared.rights.RightsFault.{RightsFault}
use Rattle.cm_names.specs.Name.{IsName}
use Rattle.cm_names.specs.Path.{is_subdir}
use Rattle.cm_names.specs.Moniker.{moniker_text, text_of_parts, text_from_root}
use Rattle.cm_names.specs.Rights.{RightSet, has, only, union, reading, writing, executing, no_rights, right_named, rights_of_word, with_rights, with_word, rights_behind, rights_of}
use Rattle.cm_facts.proofs.Rights.{has_only, has_none, has_union}
use Rattle.cm_decl.specs.declared.kind.Kind.{Kind}
use Rattle.cm_decl.specs.declared.kind.Kind.TheVariants as kind
use Rattle.cm_decl.specs.declared.origin.Origin.{Origin}
use Rattle.cm_decl.specs.declared.origin.Origin.TheVariants.{Parent, Own, Framework, Child, Void}
use Rattle.cm_decl.specs.declared.rows.Give.{Give}
use Rattle.cm_world.specs.declared.event.Target.{Target}
use Rattle.cm_world.specs.declared.event.Target.TheVariants.{Named, Inc}
use Rattle.cm_command.specs.declared.command.Command.{Command}
use Rattle.cm_command.specs.Words.{IsTargetText, IsOriginText, IsRightsText}
use Rattle.cm_command.specs.Grammar.{LineBytes, CommandWords, Groups, HasAdditions, AddsWord, plain_give}
use Rattle.cm_command.specs.Written.{IsTarget, IsWritableOrigin, HasParts, IsWritableGive}
use Rattle.cm_command.specs.WrittenInside.{IsWritable, WhatIsReadIsWritable}

-- ---- rights

-- some right is in the set
abbrev HasSome : RightSet → Type 0
HasSome r = (x : Right) × (has r x ≡ true)

-- Of a set of rights that has some and another, the one that is chosen has some.
one_of : (b : Bool) (r s : RightSet) (o : Option RightSet) → HasSome r → (o ≡ Some s → HasSome s) → (if b then Some r else o) ≡ Some s → HasSome s
one_of true r s o h f e = let same : r ≡ s = cc e in subst HasSome same h
one_of false r s o h f e = f e

-- The right that is named, if one is, makes a set that has some.
named : (o : Option Right) (s : RightSet) → option_map only o ≡ Some s → HasSome s
named None s e = absurd (none-some s e)
named (Some x) s e = let same : only x ≡ s = cc e in subst HasSome same (x, has_only x)

-- a word of the table stands for some right
word_some : (w : List ℕ) (s : RightSet) → rights_of_word w ≡ Some s → HasSome s
unfolding rights_of_word
word_some w s e =
    one_of (bytes_eq w (codes "r*")) reading s _ (Connect, refl) (one_of (bytes_eq w (codes "w*")) writing s _ (Connect, refl) (one_of (bytes_eq w (codes "x*")) executing s _ (Connect, refl) (one_of (bytes_eq w (codes "rw*")) (union reading writing) s _ (Connect, refl) (one_of (bytes_eq w (codes "rx*")) (union reading executing) s _ (Connect, refl) (named (right_named w) s))))) e

-- Rights that have some have some when others are joined to them without a fault.
joined_some : (b : Bool) (n : RightsFault) (s : RightSet) (others : Result RightSet RightsFault) (r : RightSet) → HasSome s → (if b then Err n else with_rights s others) ≡ Ok r → HasSome r
joined_some true n s others r h e = absurd (cc e)
joined_some false n s (Ok q) r h e =
    let same : union s q ≡ r = cc e in subst HasSome same (h.0, has_union h.0 s q h.1)
joined_some false n s (Err f) r h e = absurd (cc e)

-- Rights read from a word and others after it have some, where the word's own have.
behind_some : (o : Option RightSet) (earlier : List (List ℕ)) (w : List ℕ) (others : Result RightSet RightsFault) (r : RightSet) → ((s : RightSet) → o ≡ Some s → HasSome s) → with_word earlier w o others ≡ Ok r → HasSome r
behind_some None earlier w others r f e = absurd (cc e)
behind_some (Some s) earlier w others r f e = joined_some (list_any (bytes_eq w) earlier) _ s others r (f s refl) e

-- Rights that words state have some.
words_some : (ws : List (List ℕ)) (r : RightSet) → rights_of ws ≡ Ok r → HasSome r
unfolding rights_of
words_some [] r e = absurd (cc e)
words_some (w ∷ ws) r e = behind_some (rights_of_word w) [] w (rights_behind ([] ++ w ∷ []) ws) r (word_some w) e

-- rights that are read are not none
pub rights_are : (t : LineBytes) (r : RightSet) → IsRightsText t r → r ≢ no_rights
rights_are t r h =
    let some = words_some (slice_split (λ b. b == 44) t) r h in
    λ e. true≢false (sym some.1 ∙ ap (λ s. has s some.0) e ∙ has_none some.0)

-- ---- targets and origins

-- A text is no longer than it is with a byte more before it.
one_more : (t : LineBytes) (b : ℕ) → length t ≤ length (b ∷ t)
one_more t b = omega arith

-- without its slash a moniker is no longer
from_root : (cs : List ChildName) → length (text_of_parts cs) ≤ length (text_from_root cs)
from_root [] = let same : 1 ≤ 1 = omega arith in same
from_root (c ∷ cs) = one_more (text_of_parts (c ∷ cs)) 47

-- A moniker's own text is no longer than the text by which the moniker is stated.
no_longer : (t : LineBytes) (m : Moniker) → (t ≡ moniker_text m) ⊎ (t ≡ text_from_root m.parts) → length (moniker_text m) ≤ length t
no_longer t m (inl e) = omega (arith, ap length e)
no_longer t m (inr e) = subst (λ u. length (moniker_text m) ≤ length u) (sym e) (from_root m.parts)

-- What a word states as a target is a proper target.
target_is : (t : LineBytes) (a : Target) → IsTargetText t a → IsTarget a
target_is t (Named m) h = (h.0.names, omega (arith, no_longer t m h.0.written, h.1))
target_is t (Inc n) h = h.3

-- What a word states as an origin can be written.
origin_is : (t : LineBytes) (o : Origin) → IsOriginText t o → IsWritableOrigin o
origin_is t Parent h = tt
origin_is t Own h = tt
origin_is t Framework h = tt
origin_is t Void h = tt
origin_is t (Child c) h = h.0

-- ---- groups

-- No rights and no subdirectory are proper parts for each kind.
plain_parts : (k : Kind) → HasParts k None None
plain_parts kind.Protocol = (refl, refl)
plain_parts kind.Directory = (tt, tt)

-- A plain offer of a name and an origin that can be written can be written.
plain_is : (k : Kind) (name : LineBytes) (o : Origin) → IsName name → IsWritableOrigin o → IsWritableGive (plain_give k name o)
plain_is k name o is from = record { source_name = is; target_name = is; from = from; parts = plain_parts k }

-- Rights that aren't empty can be stated for a directory, whatever subdirectory is stated.
rights_stated : (k : Kind) (o : Option RightSet) (s : Option LineBytes) (r : RightSet) → k ≡ kind.Directory → r ≢ no_rights → HasParts k o s → HasParts k (Some r) s
rights_stated kind.Protocol o s r e some h = absurd (cc e)
rights_stated kind.Directory o s r e some h = (some, h.1)

-- A proper subdirectory can be stated for a directory, whatever rights are stated.
subdir_stated : (k : Kind) (o : Option RightSet) (s : Option LineBytes) (t : LineBytes) → k ≡ kind.Directory → IsTrue (is_subdir t) → HasParts k o s → HasParts k o (Some t)
subdir_stated kind.Protocol o s t e is h = absurd (cc e)
subdir_stated kind.Directory o s t e is h = (h.0, is)

-- a group that can be said can be said with one addition more
added_is : {m : ℕ} {w : LineBytes} {g h : Give} → AddsWord m w g h → IsWritableGive g → IsWritableGive h
added_is (AddsWord.target is) p = record { source_name = p.source_name; target_name = is; from = p.from; parts = p.parts }
added_is (AddsWord.rights {w = w} {r = r} {g = g} dir is) p =
    record { source_name = p.source_name; target_name = p.target_name; from = p.from; parts = rights_stated g.kind g.rights g.subdir r dir (rights_are w r is) p.parts }
added_is (AddsWord.subdir {w = w} {g = g} dir is) p =
    record { source_name = p.source_name; target_name = p.target_name; from = p.from; parts = subdir_stated g.kind g.rights g.subdir w dir is p.parts }
added_is AddsWord.weak p = record { source_name = p.source_name; target_name = p.target_name; from = p.from; parts = p.parts }
added_is AddsWord.optional p = record { source_name = p.source_name; target_name = p.target_name; from = p.from; parts = p.parts }
added_is AddsWord.transitional p = record { source_name = p.source_name; target_name = p.target_name; from = p.from; parts = p.parts }
added_is AddsWord.same_as_target p = record { source_name = p.source_name; target_name = p.target_name; from = p.from; parts = p.parts }

mutual
  -- Offers that groups of words tell can be written.
  groups_are : {ws : List LineBytes} {gs : List Give} → Groups ws gs → All IsWritableGive gs
  groups_are Groups.no_group = All-nil IsWritableGive
  groups_are (Groups.group {k = k} {name = name} {from = from} {origin = origin} is said rest) =
      behind_are rest (plain_is k name origin is (origin_is from origin said))

  -- Offers behind additions to an offer that can be written can be written.
  behind_are : {n : ℕ} {g : Give} {ws : List LineBytes} {gs : List Give} → HasAdditions n g ws gs → IsWritableGive g → All IsWritableGive gs
  behind_are (HasAdditions.whole {g = g} {gs = gs} rest) is = All-cons IsWritableGive g gs is (groups_are rest)
  behind_are (HasAdditions.addition le adds rest) is = behind_are rest (added_is adds is)

-- ---- commands

-- A command whose words these are can be written.
command_is : {ws : List LineBytes} {c : Command} → CommandWords ws c → IsWritable c
command_is (CommandWords.resolve {t = t} {a = a} h) = target_is t a h
command_is (CommandWords.start {t = t} {a = a} h) = target_is t a h
command_is (CommandWords.stop {t = t} {a = a} h) = target_is t a h
command_is (CommandWords.shutdown {t = t} {a = a} h) = target_is t a h
command_is (CommandWords.create {t = t} {a = a} h is_coll is_name is_url groups) =
    (target_is t a h, is_coll, is_name, is_url, groups_are groups)
command_is (CommandWords.destroy {t = t} {a = a} h) = target_is t a h
command_is (CommandWords.list {t = t} {a = a} h is) = (target_is t a h, is)
command_is (CommandWords.open_use {t = t} {a = a} h is) = (target_is t a h, is)
command_is (CommandWords.open_exposed {t = t} {a = a} h is) = (target_is t a h, is)
command_is (CommandWords.route_of {t = t} {a = a} h is) = (target_is t a h, is)
command_is (CommandWords.doctor {t = t} {a = a} h) = target_is t a h
command_is (CommandWords.show {t = t} {a = a} h) = target_is t a h
command_is (CommandWords.survey {t = t} {a = a} h) = target_is t a h
command_is (CommandWords.exited {t = t} {a = a} h) = target_is t a h
command_is (CommandWords.events {t = t} {a = a} h is fits) = (target_is t a h, fits)

-- What a line asks for can be written.
pub what_is_read_lem : WhatIsReadIsWritable
what_is_read_lem t c h = command_is h
