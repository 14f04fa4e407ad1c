use Rattle.cm_order.specs.Plans.{AreKnown}
use Rattle.cm_order.proofs.lemmas.searches.Searching.{IsSearching}
use Rattle.cm_order.proofs.lemmas.searches.Weights.{weigh}
use Rattle.cm_order.proofs.search.search.Given as goal

-- what is left to look at decides, and what is kept holds
abbrev pub invariant-loop-spot : goal.invariant-loop-spot
invariant-loop-spot g l = IsSearching (g.V.View.rows l.view) l.top l.wanted l.left.items × AreKnown (g.V.View.rows l.view) l.levels

abbrev pub decreases-loop-spot : goal.decreases-loop-spot
decreases-loop-spot g l = weigh (g.V.View.next_inc l.view) l.left.items
