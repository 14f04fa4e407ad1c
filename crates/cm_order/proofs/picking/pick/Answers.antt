use Rattle.cm_order.proofs.lemmas.searches.Reaching.{plan_none}
use Rattle.cm_order.proofs.picking.pick.Goals as goal

pub pick_with-requires-clause-plan : goal.pick_with-requires-clause-plan
pick_with-requires-clause-plan g c = plan_none (g.V.View.rows c.args.view.now) c.new-plan.result c.new-plan.ensures
