use Rattle.std.proofs.Common.{◌≡◌, ℕ, List}
use Rattle.cm_world.specs.declared.row.Row.{Row}
use Rattle.cm_order.specs.Glances.{KnowsDependents}
use Rattle.cm_order.proofs.clearing.release_all.Given as goal

abbrev pub invariant-loop-place : goal.invariant-loop-place
invariant-loop-place l =
    ((rows : List Row) (p : ℕ) → KnowsDependents rows p l.initial.known → KnowsDependents rows p l.known)
    × (l.known.cleared ≡ l.initial.known.cleared)
