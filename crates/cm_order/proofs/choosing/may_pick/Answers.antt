use Rattle.cm_order.proofs.lemmas.searches.Reaching.{plan_none}
use Rattle.cm_order.proofs.choosing.may_pick.Goals as goal

pub may_pick_with-requires-clause-plan : goal.may_pick_with-requires-clause-plan
may_pick_with-requires-clause-plan g c = plan_none (g.V.View.rows c.args.view.now) c.new-plan.result c.new-plan.ensures
