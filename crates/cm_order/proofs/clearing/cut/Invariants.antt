use Rattle.std.proofs.Common.{ℕ, IsTrue, length, ◌⊎◌}
use Rattle.cm_order.specs.Glances.{is_in_list, is_in_set}
use Rattle.cm_order.proofs.clearing.cut.Given as goal

abbrev pub invariant-loop-last : goal.invariant-loop-last
invariant-loop-last l =
    ((z : ℕ) → IsTrue (is_in_list l.fn.list z) → IsTrue (is_in_list l.left.items z) ⊎ IsTrue (is_in_set l.cleared z))
    × ((z : ℕ) → IsTrue (is_in_list l.left.items z) → IsTrue (is_in_list l.fn.list z))

abbrev pub decreases-loop-last : goal.decreases-loop-last
decreases-loop-last l = length l.left.items
