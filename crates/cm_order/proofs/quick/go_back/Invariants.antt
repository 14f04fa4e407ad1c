use Rattle.std.proofs.Common.{length, IsTrue}
use Rattle.std.specs.Prelude.{IfSome}
use Rattle.cm_world.specs.Rows.{is_subtree_shut}
use Rattle.cm_order.specs.Plans.{IsDescent, AreKnown}
use Rattle.cm_order.proofs.quick.go_back.Given as goal

abbrev pub invariant-loop-stand : goal.invariant-loop-stand
invariant-loop-stand g l =
    IsDescent (g.V.View.rows l.view) l.top l.way.items × IfSome l.closed (λ c. IsTrue (is_subtree_shut (g.V.View.rows l.view) c)) × AreKnown (g.V.View.rows l.view) l.levels

abbrev pub decreases-loop-stand : goal.decreases-loop-stand
decreases-loop-stand g l = length l.way.items
