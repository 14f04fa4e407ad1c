use Rattle.cm_order.proofs.lemmas.searches.Turns.{IsLooking}
use Rattle.cm_order.proofs.lemmas.searches.Weights.{weigh}
use Rattle.cm_order.proofs.below.all_shut.Given as goal

-- what is left to look at decides
abbrev pub invariant-loop-spot : goal.invariant-loop-spot
invariant-loop-spot g l = IsLooking (g.V.View.rows l.view) l.top l.left.items

abbrev pub decreases-loop-spot : goal.decreases-loop-spot
decreases-loop-spot g l = weigh (g.V.View.next_inc l.view) l.left.items
