use Rattle.cm_manager.proofs.lemmas.callers.CallerStops.{once_not, once_runs}
use Rattle.cm_manager.proofs.caller.Caller.start_once.Goals as goal

pub returns-then-not-look_once : goal.returns-then-not-look_once
returns-then-not-look_once g c =
    let look = c.look_once.ensures in
    once_not c.args.inc c.look_once.result _ _ look.turns look.later look.mine look.once c.if-not-look_once.true

pub returns : goal.returns
returns g c =
    let look = c.look_once.ensures in
    once_runs c.args.inc c.look_once.result c.start_row.result _ _ _ _ look.turns look.later look.mine look.once c.if-not-look_once.false c.ending_of_eager.ensures c.start_row.ensures
