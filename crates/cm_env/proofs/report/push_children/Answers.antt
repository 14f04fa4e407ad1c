use Rattle.cm_env.proofs.lemmas.Telling.{children_more, all_more}
use Rattle.cm_env.proofs.report.push_children.Goals as goal

pub loop-inc-preserved : goal.loop-inc-preserved
loop-inc-preserved g c = record {
  ahead = all_more (g.V.View.rows c.args.view.now) c.loop-inc.ahead.items c.push.new.self.items c.child.result c.in_ok-push.ensures.items c.loop-inc.invariant.ahead c.child.ensures.reaches;
  below = children_more _ c.loop-inc.ahead.items c.push.new.self.items c.args.below.now c.loop-inc.inc-index c.child.result c.loop-inc-test.true c.child.ensures.inc c.in_ok-push.ensures.items c.loop-inc.invariant.below;
}
