use Rattle.cm_order.specs.Plans.{IsDescent, AreKnown}
use Rattle.cm_order.proofs.lemmas.searches.Going.{IsAt, below_left}
use Rattle.cm_order.proofs.quick.go_down.Given as goal

abbrev pub invariant-down : goal.invariant-down
invariant-down g l =
    IsAt (g.V.View.rows l.view) l.top l.at × IsDescent (g.V.View.rows l.view) l.top l.way.items × AreKnown (g.V.View.rows l.view) l.levels

abbrev pub decreases-down : goal.decreases-down
decreases-down g l = below_left (g.V.View.next_inc l.view) l.at
