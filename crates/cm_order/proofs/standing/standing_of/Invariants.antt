use Rattle.std.proofs.Common.{◌≡◌}
use Rattle.cm_order.specs.Glances.{is_in_set, KnowsDependents}
use Rattle.cm_order.specs.Standing.{IsClimb, effort}
use Rattle.cm_order.proofs.standing.standing_of.Given as goal

abbrev pub invariant-loop-at : goal.invariant-loop-at
invariant-loop-at g l =
    IsClimb (g.V.View.rows l.view) l.parent l.child l.way.items × KnowsDependents (g.V.View.rows l.view) l.parent l.known
    × (is_in_set l.known.cleared l.parent ≡ is_in_set l.initial.known.cleared l.parent)

abbrev pub decreases-loop-at : goal.decreases-loop-at
decreases-loop-at g l = effort (g.V.View.rows l.view) l.known.cleared l.way.items
