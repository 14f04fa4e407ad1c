use Rattle.std.proofs.Common.{sym, ◌∙◌}
use Rattle.cm_steps.proofs.lemmas.expiries.Goers.{closed_none, once_goes, children_go}
use Rattle.cm_steps.proofs.expiring.goes_some.Goals as goal

pub returns-then-is_closed : goal.returns-then-is_closed
returns-then-is_closed g c = closed_none (g.V.View.rows c.args.view.now) c.args.inc (sym c.is_closed.ensures ∙ c.if-is_closed.true)

pub returns-then-runs_once : goal.returns-then-runs_once
returns-then-runs_once g c =
    c.may_go.ensures
    ∙ once_goes (g.V.View.rows c.args.view.now) (g.V.View.next_inc c.args.view.now) c.args.inc c.runs_once.ensures.orderly (sym c.is_closed.ensures ∙ c.if-is_closed.false) (sym c.runs_once.ensures.once ∙ c.if-runs_once.true)

pub returns : goal.returns
returns g c =
    c.child_goes.ensures
    ∙ children_go (g.V.View.rows c.args.view.now) c.args.inc (sym c.is_closed.ensures ∙ c.if-is_closed.false) (sym c.runs_once.ensures.once ∙ c.if-runs_once.false)
