use Rattle.std.proofs.Common.{ℕ, ◌<◌, IsTrue}
use Rattle.cm_deps.specs.Edges.{is_set}
use Rattle.cm_deps.proofs.ring.first_left.Given as goal

abbrev pub invariant-loop-x : goal.invariant-loop-x
invariant-loop-x l = (y : ℕ) → y < l.x → IsTrue (is_set l.listed y)
