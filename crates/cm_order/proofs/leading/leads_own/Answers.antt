use Rattle.std.proofs.Common.{sym, ◌∙◌}
use Rattle.cm_order.proofs.lemmas.levels.Owning.{own_gone, own_bound, own_leads_last, own_leads_by}
use Rattle.cm_order.proofs.leading.leads_own.Goals as goal

pub returns-then-is_shut-clause-leads : goal.returns-then-is_shut-clause-leads
returns-then-is_shut-clause-leads g c = own_gone (g.V.View.rows c.args.view.now) (g.V.View.next_inc c.args.view.now) c.requires.sound c.args.inc (sym c.is_shut.ensures ∙ c.if-is_shut.true)

pub returns-then-kids-clause-leads : goal.returns-then-kids-clause-leads
returns-then-kids-clause-leads g c = own_leads_last (g.V.View.rows c.args.view.now) (g.V.View.next_inc c.args.view.now) c.requires.sound c.args.inc (sym c.is_shut.ensures ∙ c.if-is_shut.false) (c.in_ok-kids.ensures.all c.if-kids.true)

pub returns-then-not-uses_child-clause-leads : goal.returns-then-not-uses_child-clause-leads
returns-then-not-uses_child-clause-leads g c =
    own_bound (g.V.View.rows c.args.view.now) (g.V.View.next_inc c.args.view.now) c.requires.sound c.args.inc (c.in_ok-kids.ensures.left c.if-kids.false) (sym c.uses_child.ensures ∙ c.if-not-uses_child.true)

pub returns-clause-leads : goal.returns-clause-leads
returns-clause-leads g c =
    own_leads_by (g.V.View.rows c.args.view.now) (g.V.View.next_inc c.args.view.now) c.requires.sound c.args.inc c.in_ok-first.first c.is_none.result (sym c.is_shut.ensures ∙ c.if-is_shut.false) c.in_ok-first.ensures.next c.is_none.ensures
