use Rattle.std.proofs.Common.{sym, ◌∙◌, subst}
use Rattle.cm_order.specs.Picking.{IsPicked}
use Rattle.cm_order.proofs.lemmas.searches.Answering.{picked_lowest}
use Rattle.cm_order.proofs.picking.pick_on.Goals as goal

pub returns : goal.returns
returns g c =
    let rows = g.V.View.rows c.args.view.now in
    subst (IsPicked rows c.args.top) (sym c.picked_by.ensures)
    (picked_lowest rows (g.V.View.next_inc c.args.view.now) c.requires.sound c.args.top c.in_ok-inc.inc c.in_ok-facts.facts c.requires.top
    (c.in_ok-inc.ensures rows c.requires.plan) c.in_ok-facts.ensures.facts (sym c.idle_by.ensures ∙ c.if-not-idle_by.false))
