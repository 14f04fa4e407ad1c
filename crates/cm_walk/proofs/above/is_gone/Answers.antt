use Rattle.std.proofs.Common.{◌∙◌}
use Rattle.cm_walk.proofs.lemmas.ways.Up.{gone_none, gone_above}
use Rattle.cm_walk.proofs.above.is_gone.Goals as goal

pub returns-in_default : goal.returns-in_default
returns-in_default g c = gone_none (g.V.View.rows c.args.view.now) c.args.inc c.in_default.ensures.facts

pub returns : goal.returns
returns g c = c.doomed_above.ensures ∙ gone_above (g.V.View.rows c.args.view.now) c.args.inc c.in-Some._facts c.in-Some.ensures.facts
