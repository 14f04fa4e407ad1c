use Rattle.std.proofs.Common.{None, Some}
use Rattle.std.proofs.lemmas.Result.{err_from_is_err_and}
use Rattle.cm_manager.specs.Runs.{RunsAction}
use Rattle.cm_manager.proofs.lemmas.callers.CallerRuns.{runs_as}
use Rattle.cm_manager.proofs.lemmas.callers.CallerStops.{stop_runs}
use Rattle.cm_manager.proofs.lemmas.starts.Launches.{joined_acts}
use Rattle.cm_manager.proofs.caller.Caller.stop_row.Goals as goal

-- it was stopped here, and what went with it is removed
pub returns-in-None : goal.returns-in-None
returns-in-None g c =
    stop_runs c.args.inc c.in-Ended.action c.in-Ended.outcome _ None _ _ _ (rw c.in-Ended.is at c.in_ok-began.ensures) (rw c.in-None.is at c.sweep.ensures)

-- or the call ends there
pub returns-in-Ended : goal.returns-in-Ended
returns-in-Ended g c =
    stop_runs c.args.inc c.in-Ended.action c.in-Ended.outcome _ (Some c.in-Some.refusal) _ _ _ (rw c.in-Ended.is at c.in_ok-began.ensures) (rw c.in-Some.is at c.sweep.ensures)

pub returns-in-Joined : goal.returns-in-Joined
returns-in-Joined g c = runs_as _ _ _ _ (λ f d a b joins. joined_acts f d _ c.args.inc _ _ a b joins) (rw c.in-Joined.is at c.in_ok-began.ensures)

pub returns-in-Quiet : goal.returns-in-Quiet
returns-in-Quiet g c = runs_as _ _ _ _ (λ f d a b it. RunsAction.quiet it.0 it.1) (rw c.in-Quiet.is at c.in_ok-began.ensures)

pub returns-in_err-began : goal.returns-in_err-began
returns-in_err-began g c =
    let p = err_from_is_err_and c.from_residual.result c.from_residual.ensures.1 in
    rw (p.1, p.2) (runs_as _ _ _ _ (λ f d a b cut. RunsAction.cut cut) c.in_err-began.ensures)
