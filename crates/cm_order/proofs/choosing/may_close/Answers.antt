use Rattle.std.proofs.Common.{not, ap, ◌∙◌}
use Rattle.cm_order.proofs.lemmas.searches.Choosing.{target_told}
use Rattle.cm_order.proofs.choosing.may_close.Goals as goal

pub returns : goal.returns
returns g c =
    c.is_some.ensures
    ∙ target_told (g.V.View.rows c.args.view.now) (g.V.View.next_inc c.args.view.now) c.facts.ensures.orderly c.args.target c.facts.result c.outermost.result c.facts.ensures.facts (c.is_none.ensures ∙ ap not c.if-is_none.false) c.outermost.ensures
