use Rattle.cm_world.specs.Ending.{steps_left}
use Rattle.cm_walk.specs.Walking.{as_station}
use Rattle.cm_walk.proofs.lemmas.routes.Along.{IsOnWay}
use Rattle.cm_walk.proofs.walking.follow.Given as goal

abbrev pub decreases-walk : goal.decreases-walk
decreases-walk g l = steps_left (g.V.View.next_inc l.view) (as_station l.here)

abbrev pub invariant-walk : goal.invariant-walk
invariant-walk g l = IsOnWay (g.V.View.rows l.view) (g.V.View.builtins l.view) (as_station l.fn.first) l.trail l.here
