use Rattle.std.proofs.Common.{Some, ◌∙◌, ap}
use Rattle.std.specs.Cmp.{unsigned_Decides}
use Rattle.cm_order.proofs.lemmas.levels.Clearing.{kid_told}
use Rattle.cm_order.proofs.clearing.is_child.Goals as goal

pub returns-in-Some-parent : goal.returns-in-Some-parent
returns-in-Some-parent g c = λ same.
    kid_told (g.V.View.rows c.args.view.now) c.args.parent c.args.child c.in-Some.facts c.in-Some.ensures.facts (c.in-Some-parent.is ∙ ap Some ((unsigned_Decides c.in-Some-parent.above c.args.parent).0 same))
