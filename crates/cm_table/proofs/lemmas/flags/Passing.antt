-- A mark on its way down.
use Rattle.std.proofs.Common.{◌≡◌, ℕ, ◌<◌, List, length, map, Bool, true, false, ◌||◌, ◌==◌, true≢false, Option, Some, None, refl, sym, ◌∙◌, ap, subst, ◌⊎◌, inl, inr, ⊎_elim, arith, ne_eqb}
use Rattle.std.specs.Prelude.{option_and_then}
use Rattle.std.proofs.lemmas.Bool.{or_left, or_right}
use Rattle.cm_facts.proofs.Booleans.{or_true_second}
use Rattle.cm_facts.proofs.Options.{is_some_true}
use Rattle.cm_world.specs.declared.row.Row.{Row}
use Rattle.cm_world.specs.Edits.{edit_first}
use Rattle.cm_world.specs.Rows.{row_of, is_live, is_below, at_or_above}
use Rattle.cm_world.specs.Sound.{IsOrderly, IsParent}
use Rattle.cm_world.proofs.lemmas.trees.Finding.{row_of-inc}
use Rattle.cm_world.proofs.lemmas.trees.Climbing.{some_above-step, above_root}
use Rattle.cm_table.specs.declared.marks.MarkKind.{MarkKind}
use Rattle.cm_table.specs.declared.slot.Slot.{Slot}
use Rattle.cm_table.specs.Flags.{flag_of}
use Rattle.cm_table.specs.Leaf.{IsWithin, IsChildOf}
use Rattle.cm_table.specs.Marking.{flagged, unmarked, IsDown, IsOpenWithin, IsOpenChild, IsBottom, GoesOn, Turns, open_count}
use Rattle.cm_table.specs.Slots.{slot_of, rows_in}
use Rattle.cm_trees.proofs.rows.Rows.{is_some_by}
use Rattle.cm_table.proofs.lemmas.tree.Removing.{within_child}
use Rattle.cm_table.proofs.lemmas.flags.Flagging.{slot_of-row, flag-slot, rows_alike, same-flagged, others-flagged, flag-kept, flag-only, flag-hit, fewer-flagged}

-- A child of a row that doesn't have the mark kept yet is a living child of it.
pub as_child : (k : MarkKind) (ss : List Slot) (p i : ℕ) → IsOpenChild k ss p i → IsChildOf (rows_in ss) p i
as_child k ss p i c = record { row = c.row; lives = c.lives; under = c.under }

-- what isn't flagged below something at or below the top is at or below it
pub open_within : (k : MarkKind) (ss : List Slot) (next top i j : ℕ) → IsOrderly (rows_in ss) next → IsOpenWithin k ss top i → IsOpenChild k ss i j → IsOpenWithin k ss top j
open_within k ss next top i j o w c =
    let z : IsWithin (rows_in ss) top j = within_child (rows_in ss) next top i j o (record { lives = w.lives; below = w.below }) (as_child k ss i j c) in
    record { lives = z.lives; below = z.below; unmarked = c.unmarked }

-- ---- one is flagged

-- A child of a row that has the mark, or of the bottom, has the mark.
down_by : (k : MarkKind) (ss : List Slot) (top b i p : ℕ) (r : Row) → IsDown k ss → IsBottom k ss top b → row_of (rows_in ss) i ≡ Some r → r.parent ≡ Some p → (flag_of k ss p ≡ true) ⊎ (p ≡ b) → flag_of k ss i ≡ true
down_by k ss top b i p r down bottom here up (inl old) = down i p r here up old
down_by k ss top b i p r down bottom here up (inr is) = bottom.children i r here (up ∙ ap Some is) refl

-- Once the bottom is marked, the children of what has the mark still have it.
down_on : (k : MarkKind) (ss zs : List Slot) (top b : ℕ) → zs ≡ edit_first (λ s. s.row.inc == b) (flagged k) ss → IsDown k ss → IsBottom k ss top b → IsDown k zs
down_on k ss zs top b is down bottom i p r here up flag =
    let rows : rows_in zs ≡ rows_in ss = rows_alike ss zs (ap (map unmarked) is ∙ same-flagged k b ss) in
    let there : row_of (rows_in ss) i ≡ Some r = subst (λ l. row_of l i ≡ Some r) rows here in
    subst (λ l. flag_of k l i ≡ true) (sym is)
    (flag-kept k b i ss (down_by k ss top b i p r down bottom there up (flag-only k b p ss (subst (λ l. flag_of k l p ≡ true) is flag))))

-- A row that was marked or is the bottom is marked or below the top.
only_by : (f : Bool) (i b : ℕ) (below : ℕ → Bool) → below b ≡ true → (f ≡ true) ⊎ (i ≡ b) → (f || below i) ≡ true
only_by f i b below within (inl old) = or_left f (below i) old
only_by f i b below within (inr is) = or_right f (below i) (ap below is ∙ within)

-- A row that had no mark and isn't the one marked now has none.
unmarked_by : (k : MarkKind) (ss : List Slot) (b p : ℕ) → (flag_of k ss p ≡ true → ⊥) → (p ≡ b → ⊥) → flag_of k (edit_first (λ s. s.row.inc == b) (flagged k) ss) p ≡ false
unmarked_by k ss b p old differ = by (flag_of k (edit_first (λ s. s.row.inc == b) (flagged k) ss) p) refl where
  by : (f : Bool) → flag_of k (edit_first (λ s. s.row.inc == b) (flagged k) ss) p ≡ f → f ≡ false
  by false e = refl
  by true e = absurd (⊎_elim old differ (flag-only k b p ss e))

-- Once the bottom is marked, the mark goes on at its parent, where that is at or below the top.
goes_by : (k : MarkKind) (ss : List Slot) (next top b : ℕ) (r : Row) (u : Option ℕ) → IsOrderly (rows_in ss) next → IsDown k ss → IsBottom k ss top b → row_of (rows_in ss) b ≡ Some r → r.parent ≡ u → at_or_above (length (rows_in ss)) (λ s. s.inc == top) (rows_in ss) u ≡ true
    → (zs : List Slot) → zs ≡ edit_first (λ s. s.row.inc == b) (flagged k) ss → GoesOn k zs top u
goes_by k ss next top b r None o down bottom here up above zs is = absurd (true≢false (sym above ∙ above_root (length (rows_in ss)) (λ s. s.inc == top) (rows_in ss)))
goes_by k ss next top b r (Some p) o down bottom here up above zs is =
    let q : IsParent (rows_in ss) p b = (o.parents b p r here up).0 in
    let low : p < b = q.lower in
    let rows : rows_in zs ≡ rows_in ss = rows_alike ss zs (ap (map unmarked) is ∙ same-flagged k b ss) in
    record {
      lives = subst (λ l. is_live l p ≡ true) (sym rows) (is_some_by (row_of (rows_in ss) p) q.row q.lives);
      below = subst (λ l. is_below l top p ≡ true) (sym rows) above;
      unmarked = subst (λ l. flag_of k l p ≡ false) (sym is)
          (unmarked_by k ss b p (λ f. true≢false (sym (down b p r here up f) ∙ bottom.within.unmarked)) (λ e. absurd (omega arith)));
    }

-- where it wasn't the top, the mark goes on at its parent
pub goes_on : (k : MarkKind) (ss zs : List Slot) (next top b : ℕ) → IsOrderly (rows_in ss) next → IsDown k ss → IsBottom k ss top b → (b ≡ top → ⊥) → zs ≡ edit_first (λ s. s.row.inc == b) (flagged k) ss
    → GoesOn k zs top (option_and_then (λ r. r.parent) (row_of (rows_in zs) b))
goes_on k ss zs next top b o down bottom differ is =
    let rows : rows_in zs ≡ rows_in ss = rows_alike ss zs (ap (map unmarked) is ∙ same-flagged k b ss) in
    let q : (r : Row) × (row_of (rows_in ss) b ≡ Some r) = is_some_true (row_of (rows_in ss) b) bottom.within.lives in
    let other : (q.0.inc == top) ≡ false = ne_eqb q.0.inc top (λ e. differ (sym (row_of-inc (rows_in ss) b q.0 q.1) ∙ e)) in
    let above = or_true_second (q.0.inc == top) (at_or_above (length (rows_in ss)) (λ s. s.inc == top) (rows_in ss) q.0.parent) other (sym (some_above-step (λ s. s.inc == top) (rows_in ss) next b q.0 o q.1) ∙ bottom.within.below) in
    subst (λ u. GoesOn k zs top u) (sym (ap (λ l. option_and_then (λ r. r.parent) (row_of l b)) rows ∙ ap (option_and_then (λ r. r.parent)) q.1))
    (goes_by k ss next top b q.0 q.0.parent o down bottom q.1 refl above zs is)

-- A row that lives has a slot.
lives_slot : (ss : List Slot) (b : ℕ) → is_live (rows_in ss) b ≡ true → (s : Slot) × (slot_of ss b ≡ Some s)
lives_slot ss b h =
    let q : (r : Row) × (row_of (rows_in ss) b ≡ Some r) = is_some_true (row_of (rows_in ss) b) h in
    let z : (s : Slot) × (slot_of ss b ≡ Some s) × (s.row ≡ q.0) = slot_of-row ss b q.0 q.1 in (z.0, z.1)

-- Where the row that is next is flagged, and the mark goes on, one slot more is flagged.
pub turned : (k : MarkKind) (ss zs : List Slot) (top b : ℕ) (at : Option ℕ) → IsDown k ss → IsBottom k ss top b → zs ≡ edit_first (λ s. s.row.inc == b) (flagged k) ss → GoesOn k zs top at → Turns k top ss zs at
turned k ss zs top b at down bottom is goes =
    let q : (s : Slot) × (slot_of ss b ≡ Some s) = lives_slot ss b bottom.within.lives in
    record {
      same = ap (map unmarked) is ∙ same-flagged k b ss;
      others = λ other i apart. ap (λ l. flag_of other l i) is ∙ others-flagged k b ss other i apart;
      down = down_on k ss zs top b is down bottom;
      kept = λ i f. subst (λ l. flag_of k l i ≡ true) (sym is) (flag-kept k b i ss f);
      only = λ i f. only_by (flag_of k ss i) i b (is_below (rows_in ss) top) bottom.within.below (flag-only k b i ss (subst (λ l. flag_of k l i ≡ true) is f));
      goes = goes;
      fewer = subst (λ l. open_less l ss) (sym is) (fewer-flagged k b ss q.0 q.1 (sym (flag-slot k ss b q.0 q.1) ∙ bottom.within.unmarked));
    } where
      open_less : List Slot → List Slot → Type 0
      open_less l m = open_count k l < open_count k m

-- Where the row that is next is the top itself, flagging it leaves the top flagged.
pub top_done : (k : MarkKind) (ss zs : List Slot) (top b : ℕ) → IsBottom k ss top b → b ≡ top → zs ≡ edit_first (λ s. s.row.inc == b) (flagged k) ss → flag_of k zs top ≡ true
top_done k ss zs top b bottom same is =
    let q : (s : Slot) × (slot_of ss b ≡ Some s) = lives_slot ss b bottom.within.lives in
    subst (λ n. flag_of k zs n ≡ true) same (subst (λ l. flag_of k l b ≡ true) (sym is) (flag-hit k b ss q.0 q.1))
