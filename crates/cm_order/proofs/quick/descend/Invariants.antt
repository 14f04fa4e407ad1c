use Rattle.cm_order.specs.Plans.{IsFreeOnTheWay, IsDescent, AreKnown}
use Rattle.cm_order.proofs.quick.descend.Given as goal

abbrev pub invariant-loop-turn : goal.invariant-loop-turn
invariant-loop-turn g l =
    IsFreeOnTheWay (g.V.View.rows l.view) l.top l.at × IsDescent (g.V.View.rows l.view) l.top l.way.items × AreKnown (g.V.View.rows l.view) l.levels
