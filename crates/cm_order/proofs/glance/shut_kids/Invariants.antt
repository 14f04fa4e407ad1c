use Rattle.cm_order.specs.Plans.{AreShutSoFar}
use Rattle.cm_order.proofs.lemmas.levels.Gathering.{room}
use Rattle.cm_order.proofs.glance.shut_kids.Given as goal

abbrev pub invariant-loop-child : goal.invariant-loop-child
invariant-loop-child g l = AreShutSoFar (g.V.View.rows l.view) l.inc l.behind

abbrev pub decreases-loop-child : goal.decreases-loop-child
decreases-loop-child g l = room (g.V.View.next_inc l.view) l.behind
