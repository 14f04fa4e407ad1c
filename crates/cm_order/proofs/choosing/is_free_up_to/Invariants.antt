use Rattle.cm_order.specs.Plans.{AreKnown}
use Rattle.cm_order.proofs.lemmas.searches.Choosing.{IsWayUp}
use Rattle.cm_order.proofs.choosing.is_free_up_to.Given as goal

-- all levels from this row down are free, and what is kept holds
abbrev pub invariant-up : goal.invariant-up
invariant-up g l = IsWayUp (g.V.View.rows l.view) l.top l.inc l.here × AreKnown (g.V.View.rows l.view) l.levels

abbrev pub decreases-up : goal.decreases-up
decreases-up g l = l.here
