-- The table of the root alone.
use Rattle.std.proofs.Common.{◌≡◌, ℕ, List, [], ◌∷◌, ◌++◌, Bool, true, false, cond, ◌==◌, true≢false, Option, Some, None, option_and_then, refl, sym, ap, subst, ◌∙◌, ne_eqb}
use Rattle.std.specs.Cmp.{unsigned_Decides}
use Rattle.cm_names.specs.declared.moniker.Moniker.{Moniker}
use Rattle.cm_world.specs.declared.row.Row.{Row}
use Rattle.cm_world.specs.Rows.{some_above, moniker_of}
use Rattle.cm_world.specs.World.{root_row}
use Rattle.cm_world.specs.Sound.{IsOrderly}
use Rattle.cm_world.proofs.lemmas.examples.Fresh.{starts_sound}
use Rattle.cm_world.proofs.lemmas.trees.Finding.{none_some, some_same}
use Rattle.cm_table.specs.declared.block.RowBlock.{RowBlock}
use Rattle.cm_table.specs.declared.marks.MarkKind.{MarkKind}
use Rattle.cm_table.specs.declared.marks.MarkKind.TheVariants.{Closing, Doomed}
use Rattle.cm_table.specs.declared.slot.Slot.{Slot}
use Rattle.cm_table.specs.Keys.{EachItem}
use Rattle.cm_table.specs.Slots.{flat, rows_in, slots_in, IsIndexed}
use Rattle.cm_table.specs.Flags.{AreFlagged, has_mark, flag_of, no_flags}
use Rattle.cm_table.specs.Monikers.{kept_at, StandWhereKept}
use Rattle.cm_table.specs.Numbering.{bare_slot}
use Rattle.cm_table.proofs.lemmas.flags.Climbs.{none_above}
use Rattle.cm_table.proofs.lemmas.flags.Flagging.{flag-none}
use Rattle.cm_table.proofs.lemmas.indexes.Indexing.{bare_index}

-- the root has no names
abbrev pub root_kept : Option Moniker
root_kept = Some (record { parts = [] })

-- Of one block, in which the root's slot stands alone, that is the only slot.
pub flat_first : (bs : List RowBlock) (b : RowBlock) (r : Row) → bs ≡ b ∷ [] → slots_in b ≡ bare_slot r no_flags root_kept ∷ [] → flat bs ≡ bare_slot r no_flags root_kept ∷ []
flat_first bs b r one is = ap flat one ∙ ap (λ l. l ++ []) is

-- The root alone is an orderly tree.
pub orderly_first : (url : List ℕ) → IsOrderly (rows_in (bare_slot (root_row url) no_flags root_kept ∷ [])) 1
orderly_first url = (starts_sound (record { root = url; builtins = []; limits = record { rows = 0; entries = 0 } })).orderly

-- The index of the root alone is right.
pub indexed_first : (url : List ℕ) → EachItem (IsIndexed (rows_in (bare_slot (root_row url) no_flags root_kept ∷ [])) 1) (bare_slot (root_row url) no_flags root_kept ∷ [])
indexed_first url = (bare_index (root_row url ∷ []) 1 (bare_slot (root_row url) no_flags root_kept) refl (refl, tt), tt)

-- What is kept of marks is right for the root alone.
pub flagged_first : (url : List ℕ) → AreFlagged (bare_slot (root_row url) no_flags root_kept ∷ [])
flagged_first url k i = by (i == 0) refl where
  first : List Slot
  first = bare_slot (root_row url) no_flags root_kept ∷ []

  by : (t : Bool) → (i == 0) ≡ t → flag_of k first i ≡ some_above (has_mark k) (rows_in first) i
  by true e = subst (λ n. flag_of k first n ≡ some_above (has_mark k) (rows_in first) n) (sym ((unsigned_Decides i 0).0 e)) (at_root k) where
    at_root : (k : MarkKind) → flag_of k first 0 ≡ some_above (has_mark k) (rows_in first) 0
    at_root Closing = refl
    at_root Doomed = refl
  by false e =
      let other : (0 == i) ≡ false = ne_eqb 0 i (λ same. true≢false (sym ((unsigned_Decides i 0).1 (sym same)) ∙ e)) in
      flag-none k first i (ap (λ t. cond t (Some (bare_slot (root_row url) no_flags root_kept)) None) other)
      ∙ sym (none_above (has_mark k) (rows_in first) i (ap (λ t. cond t (Some (root_row url)) None) other))

-- Where rows stand is kept rightly for the root alone.
pub standing_first : (url : List ℕ) → StandWhereKept (bare_slot (root_row url) no_flags root_kept ∷ [])
standing_first url i m = by (i == 0) refl where
  first : List Slot
  first = bare_slot (root_row url) no_flags root_kept ∷ []

  by : (t : Bool) → (i == 0) ≡ t → kept_at first i ≡ Some m → m ≡ moniker_of (rows_in first) i
  by true e = subst (λ n. kept_at first n ≡ Some m → m ≡ moniker_of (rows_in first) n) (sym ((unsigned_Decides i 0).0 e)) (λ h. sym (some_same (record { parts = [] }) m h))
  by false e =
      let other : (0 == i) ≡ false = ne_eqb 0 i (λ same. true≢false (sym ((unsigned_Decides i 0).1 (sym same)) ∙ e)) in
      λ h. absurd (none_some m (sym (ap (λ t. option_and_then (λ (s : Slot). s.moniker) (cond t (Some (bare_slot (root_row url) no_flags root_kept)) None)) other) ∙ h))
