use Rattle.cm_order.specs.Plans.{AreKnown}
use Rattle.cm_order.proofs.lemmas.levels.Gathering.{room}
use Rattle.cm_order.proofs.lemmas.levels.Leading.{IsPassing}
use Rattle.cm_order.proofs.leading.next_leading.Given as goal

-- the children that were passed don't lead
abbrev pub invariant-loop-child : goal.invariant-loop-child
invariant-loop-child g l =
    IsPassing (g.V.View.rows l.view) l.parent l.fn.behind l.last × AreKnown (g.V.View.rows l.view) l.levels

abbrev pub decreases-loop-child : goal.decreases-loop-child
decreases-loop-child g l = room (g.V.View.next_inc l.view) l.last
