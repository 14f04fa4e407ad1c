use Rattle.std.proofs.Common.{refl, sym, ◌∙◌}
use Rattle.cm_trees.proofs.levels.Shut.{own_shut}
use Rattle.cm_order.proofs.standing.look_own.Goals as goal

pub returns-then-is_shut : goal.returns-then-is_shut
returns-then-is_shut g c = (refl, sym c.is_shut.ensures ∙ c.if-is_shut.true)

pub returns : goal.returns
returns g c = own_shut (g.V.View.rows c.args.view.now) c.args.parent ∙ (sym c.is_shut.ensures ∙ c.if-is_shut.false)
