-- What is shut at a level: the row itself, and its children with all below them.
use Rattle.std.proofs.Common.{◌≡◌, ℕ, ◌-◌, ◌<◌, List, Bool, true, false, ◌==◌, refl, arith}
use Rattle.std.specs.Cmp.{unsigned_Decides}
use Rattle.cm_facts.proofs.Numbers.{eq_self}
use Rattle.cm_world.specs.declared.row.Row.{Row}
use Rattle.cm_world.specs.Rows.{is_shut, is_subtree_shut}
use Rattle.cm_world.specs.Sound.{IsOrderly}
use Rattle.cm_world.specs.Stopping.{is_wholly_shut}
use Rattle.cm_trees.specs.Kids.{IsKid}
use Rattle.cm_trees.proofs.trees.Trees.{kid_higher}

-- of the row itself its own mark is asked
pub own_shut : (rows : List Row) (p : ℕ) → is_wholly_shut rows p p ≡ is_shut rows p
own_shut rows p = rw (eq_self p) refl

module _ (rows : List Row) (next : ℕ) (orderly : IsOrderly rows next) where
  -- a child is another row
  pub not_own : (p c : ℕ) → IsKid rows p c → (c == p) ≡ false
  not_own p c kid = by (c == p) refl where
    by : (t : Bool) → (c == p) ≡ t → (c == p) ≡ false
    by true e =
        let same : c ≡ p = (unsigned_Decides c p).0 e in
        let higher : p < c = kid_higher rows next orderly p c kid in
        absurd (omega arith)
    by false e = e

  -- of a child all at and below it
  pub kid_shut : (p c : ℕ) → IsKid rows p c → is_wholly_shut rows p c ≡ is_subtree_shut rows c
  kid_shut p c kid = rw (not_own p c kid) refl
