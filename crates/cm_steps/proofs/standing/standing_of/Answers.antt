use Rattle.std.proofs.Common.{◌||◌, ◌∙◌, ap₂}
use Rattle.cm_walk.proofs.lemmas.ways.Up.{gone_none, closed_none, gone_above, shut_told}
use Rattle.cm_steps.proofs.standing.standing_of.Goals as goal

pub returns-in-None-clause-gone : goal.returns-in-None-clause-gone
returns-in-None-clause-gone g c = gone_none (g.V.View.rows c.args.view.now) c.args.inc c.in-None.ensures.facts

pub returns-in-None-clause-closed : goal.returns-in-None-clause-closed
returns-in-None-clause-closed g c = closed_none (g.V.View.rows c.args.view.now) c.args.inc c.in-None.ensures.facts

pub returns-in-Some-clause-gone : goal.returns-in-Some-clause-gone
returns-in-Some-clause-gone g c = c.doomed_above.ensures ∙ gone_above (g.V.View.rows c.args.view.now) c.args.inc c.in-Some.own c.in-Some.ensures.facts

pub returns-in-Some-clause-closed : goal.returns-in-Some-clause-closed
returns-in-Some-clause-closed g c =
    c.is_either.ensures ∙ ap₂ (λ a b. a || b) c.closing_above.ensures (shut_told (g.V.View.rows c.args.view.now) c.args.inc c.in-Some.own c.in-Some.ensures.facts)
