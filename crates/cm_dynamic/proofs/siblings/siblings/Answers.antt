use Rattle.std.proofs.Common.{sym, ◌∙◌}
use Rattle.cm_dynamic.proofs.lemmas.children.Following.{one_more, all_seen, fewer_ahead}
use Rattle.cm_dynamic.proofs.siblings.siblings.Goals as goal

pub children-smaller : goal.children-smaller
children-smaller g c =
    fewer_ahead (g.V.View.rows c.args.view.now) (g.V.View.next_inc c.args.view.now) c.args.parent c.in-Some.inc c.children.after c.in_ok-found.ensures.orderly.increasing (sym c.in-Some.ensures)

pub children-preserved : goal.children-preserved
children-preserved g c =
    one_more (g.V.View.rows c.args.view.now) (g.V.View.next_inc c.args.view.now) c.args.parent c.in-Some.inc c.children.after c.children.children.items _ _ c.in_ok-found.found c.in_ok-found.ensures.orderly.increasing (sym c.in-Some.ensures) c.in_ok-found.ensures.child c.in_ok-push_found.ensures c.children.invariant

pub returns : goal.returns
returns g c =
    all_seen (g.V.View.rows c.args.view.now) c.args.parent c.children.after c.children.children.items _ (sym c.next_child.ensures ∙ c.in_default.is) c.children.invariant
