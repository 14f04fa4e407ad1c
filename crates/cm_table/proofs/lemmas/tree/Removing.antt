-- A row without children is taken away, and removal goes on at its parent.
use Rattle.std.proofs.Common.{◌≡◌, ℕ, ◌<◌, ◌-◌, ◌==◌, ◌||◌, List, Bool, true, false, true≢false, Option, Some, None, length, refl, sym, ◌∙◌, ap, subst, arith, ne_eqb}
use Rattle.std.specs.Prelude.{option_map, option_and_then}
use Rattle.cm_facts.proofs.Booleans.{or_true_second}
use Rattle.cm_facts.proofs.Options.{is_some_true}
use Rattle.cm_world.specs.declared.row.Row.{Row}
use Rattle.cm_world.specs.Rows.{row_of, is_below, at_or_above}
use Rattle.cm_world.specs.Sound.{IsOrderly, IsParent}
use Rattle.cm_world.proofs.lemmas.trees.Finding.{row_of-inc}
use Rattle.cm_world.proofs.lemmas.trees.Climbing.{some_above-step, above_root}
use Rattle.cm_table.specs.declared.slot.Slot.{Slot}
use Rattle.cm_table.specs.Leaf.{IsWithin, IsLeaf, IsChildOf}
use Rattle.cm_trees.proofs.rows.Rows.{is_some_by, lives_below}
use Rattle.cm_table.proofs.lemmas.tree.Leaves.{without, stays, not_taken, above_same}
use Rattle.cm_table.proofs.lemmas.lists.BinarySearch.{no_some}
use Rattle.cm_trees.proofs.trees.Standing.{below_self}

-- what is left to remove, over rows
abbrev pub Goes : List Row → ℕ → Option ℕ → Type 0
Goes rows top None = row_of rows top ≡ None
Goes rows top (Some i) = IsWithin rows top i

-- a row that lives is at or below itself
pub start : (rows : List Row) (next top : ℕ) (r : Row) → IsOrderly rows next → row_of rows top ≡ Some r → IsWithin rows top top
start rows next top r o here = record { lives = is_some_by (row_of rows top) r here; below = below_self rows next top r o here }

-- a child of a row at or below another is so too
pub within_child : (rows : List Row) (next top i k : ℕ) → IsOrderly rows next → IsWithin rows top i → IsChildOf rows i k → IsWithin rows top k
within_child rows next top i k o w child = record {
  lives = is_some_by (row_of rows k) child.row child.lives;
  below = some_above-step (λ s. s.inc == top) rows next k child.row o child.lives
      ∙ ap (λ u. (child.row.inc == top) || at_or_above (length rows) (λ s. s.inc == top) rows u) child.under
      ∙ or_true (child.row.inc == top) (is_below rows top i) w.below;
} where
  or_true : (a b : Bool) → b ≡ true → (a || b) ≡ true
  or_true true b h = refl
  or_true false b h = h

-- The higher a number below a bound, the less is left up to the bound.
falls : (n i k : ℕ) → i < k → k < n → n - k < n - i
falls n i k up low = omega arith

-- A child's incarnation is nearer to the next one than its parent's.
pub child_nearer : (rows : List Row) (next i k : ℕ) → IsOrderly rows next → IsChildOf rows i k → next - k < next - i
child_nearer rows next i k o child =
    falls next i k (o.parents k i child.row child.lives child.under).0.lower (lives_below rows next k child.row o.increasing child.lives)

-- the row that was removed is gone
pub gone : (rows : List Row) (next i : ℕ) → IsOrderly rows next → row_of (without i rows) i ≡ None
gone rows next i o = no_some (row_of (without i rows) i) (λ h.
    let q : (s : Row) × (row_of (without i rows) i ≡ Some s) = is_some_true (row_of (without i rows) i) h in
    not_taken i next i rows q.0 o.increasing q.1 refl)

-- Removal of a leaf goes on at its parent, where that stands at or below the top.
goes_by : (rows : List Row) (next top leaf : ℕ) (r : Row) (u : Option ℕ) → IsOrderly rows next → IsLeaf rows top leaf → row_of rows leaf ≡ Some r → r.parent ≡ u → at_or_above (length rows) (λ s. s.inc == top) rows u ≡ true → Goes (without leaf rows) top u
goes_by rows next top leaf r None o l here up above = absurd (true≢false (sym above ∙ above_root (length rows) (λ s. s.inc == top) rows))
goes_by rows next top leaf r (Some p) o l here up above =
    let q : IsParent rows p leaf = (o.parents leaf p r here up).0 in
    let low : p < leaf = q.lower in
    let kept : row_of (without leaf rows) p ≡ Some q.row = stays leaf p rows q.row (λ e. absurd (omega arith)) q.lives in
    record {
      lives = is_some_by (row_of (without leaf rows) p) q.row kept;
      below = above_same (λ s. s.inc == top) rows next leaf p q.row o l.childless kept ∙ above;
    }

-- where it wasn't the top, removal goes on at its parent
pub goes_on : (rows : List Row) (next top leaf : ℕ) → IsOrderly rows next → IsLeaf rows top leaf → (leaf ≡ top → ⊥) → Goes (without leaf rows) top (option_and_then (λ r. r.parent) (row_of rows leaf))
goes_on rows next top leaf o l differ =
    let q : (r : Row) × (row_of rows leaf ≡ Some r) = is_some_true (row_of rows leaf) l.lives in
    let other : (q.0.inc == top) ≡ false = ne_eqb q.0.inc top (λ e. differ (sym (row_of-inc rows leaf q.0 q.1) ∙ e)) in
    subst (λ z. Goes (without leaf rows) top (option_and_then (λ r. r.parent) z)) (sym q.1)
    (goes_by rows next top leaf q.0 q.0.parent o l q.1 refl
    (or_true_second (q.0.inc == top) (at_or_above (length rows) (λ s. s.inc == top) rows q.0.parent) other (sym (some_above-step (λ s. s.inc == top) rows next leaf q.0 o q.1) ∙ l.below)))

-- The parent that a slot tells is that of its row.
pub parent_by_slots : (o : Option Slot) → option_and_then (λ s. s.row.parent) o ≡ option_and_then (λ r. r.parent) (option_map (λ s. s.row) o)
parent_by_slots None = refl
parent_by_slots (Some s) = refl
