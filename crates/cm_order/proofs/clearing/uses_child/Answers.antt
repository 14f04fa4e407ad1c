use Rattle.cm_order.proofs.lemmas.levels.Owning.{uses_by}
use Rattle.cm_order.proofs.clearing.uses_child.Goals as goal

pub returns-in-Some : goal.returns-in-Some
returns-in-Some g c = uses_by (g.V.View.rows c.args.view.now) c.args.inc c.in-Some.decl.now c.as_slice.result.now c.are_of_child.result c.in-Some.ensures.decl c.as_slice.ensures c.are_of_child.ensures
