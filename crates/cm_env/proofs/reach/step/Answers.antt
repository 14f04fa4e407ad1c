use Rattle.std.proofs.Common.{subst}
use Rattle.cm_env.specs.Reach.{IsReachOf}
use Rattle.cm_env.proofs.reach.step.Goals as goal

pub returns-in-From : goal.returns-in-From
returns-in-From g c =
    let rows = g.V.View.rows c.args.view.now in
    c.look_in.ensures rows c.args.stand.inc c.in-From.field-2 (subst (IsReachOf rows c.args.stand.inc) c.in-From.is c.requires)
