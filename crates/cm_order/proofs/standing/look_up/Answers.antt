use Rattle.std.proofs.Common.{refl, sym, ◌∙◌, subst}
use Rattle.cm_order.specs.Standing.{IsSeen}
use Rattle.cm_order.proofs.lemmas.levels.Standing.{kid_wholly}
use Rattle.cm_order.proofs.standing.look_up.Goals as goal

pub returns-then-client-parent : goal.returns-then-client-parent
returns-then-client-parent g c =
    subst (λ z. IsSeen (g.V.View.rows c.args.view.now) c.args.parent z c.look_own.result) (sym c.if-client-parent.true) c.look_own.ensures

pub returns-then-branch : goal.returns-then-branch
returns-then-branch g c = (
  refl,
  c.if-client-parent.false,
  kid_wholly (g.V.View.rows c.args.view.now) c.args.parent c.args.client c.if-client-parent.false ∙ (sym c.in_ok-all_shut.ensures ∙ c.if-branch.true),
)

pub returns : goal.returns
returns g c = kid_wholly (g.V.View.rows c.args.view.now) c.args.parent c.args.client c.if-client-parent.false ∙ (sym c.in_ok-all_shut.ensures ∙ c.if-branch.false)
