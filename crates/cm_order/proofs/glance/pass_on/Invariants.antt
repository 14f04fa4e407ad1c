use Rattle.cm_order.specs.Glances.{KnowsDependents}
use Rattle.cm_order.proofs.lemmas.levels.Gathering.{room}
use Rattle.cm_order.proofs.glance.pass_on.Given as goal

abbrev pub invariant-loop-child : goal.invariant-loop-child
invariant-loop-child g l = KnowsDependents (g.V.View.rows l.view) l.parent l.known

abbrev pub decreases-loop-child : goal.decreases-loop-child
decreases-loop-child g l = room (g.V.View.next_inc l.view) l.passed
