use Rattle.std.proofs.Common.{arith}
use Rattle.cm_steps.proofs.lemmas.read.Kids.{kids_more}
use Rattle.cm_steps.proofs.replies.beginning.eager_among.Goals as goal

pub loop-child-preserved : goal.loop-child-preserved
loop-child-preserved g c =
    kids_more (g.V.View.rows c.args.view.now) c.args.inc c.loop-child.child-index c.args.children.now c.child-item.result c.in_ok-found.found c.loop-child.eager c.push_found.new.list (omega arith) c.child-item.is c.in_ok-found.ensures c.loop-child.invariant c.in_ok-push_found.ensures
