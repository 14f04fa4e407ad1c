use Rattle.cm_manager.proofs.lemmas.callers.CallerAnswers.{path_line}
use Rattle.cm_manager.proofs.caller.Caller.check_path.Goals as goal

pub returns : goal.returns
returns g c =
    path_line c.args.row.now c.args.path.now c.args.lines _ _ _ _ _ c.try_request-went.ensures c.route_in.ensures c.found_at.ensures
