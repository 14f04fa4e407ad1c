use Rattle.std.proofs.lemmas.Result.{err_from_is_err_and}
use Rattle.cm_manager.proofs.lemmas.callers.CallerRuns.{known_run}
use Rattle.cm_manager.proofs.lemmas.callers.CallerAnswers.{doctor_runs, survey_refused}
use Rattle.cm_manager.proofs.caller.Caller.doctor_at.Goals as goal

pub check_rows-requires : goal.check_rows-requires
check_rows-requires g c = (c.type_bounds.sync-R, known_run _ _ _ c.in_ok-rows.ensures)

pub returns : goal.returns
returns g c = doctor_runs c.args.inc _ _ _ _ _ _ c.doctored.ensures c.in_ok-rows.ensures c.check_rows.ensures

pub returns-in_err-rows : goal.returns-in_err-rows
returns-in_err-rows g c =
    let p = err_from_is_err_and c.from_residual.result c.from_residual.ensures.1 in
    rw (p.1, p.2) (survey_refused c.args.inc _ _ _ c.in_err-rows.ensures)
