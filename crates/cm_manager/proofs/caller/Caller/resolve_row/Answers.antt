use Rattle.std.proofs.Common.{refl}
use Rattle.std.proofs.lemmas.Result.{err_from_is_err_and}
use Rattle.cm_manager.specs.Runs.{RunsAction}
use Rattle.cm_manager.proofs.lemmas.starts.Launches.{ended_acts, joined_acts, unfollowed, not_a_start, not_a_stop}
use Rattle.cm_manager.proofs.lemmas.callers.CallerRuns.{runs_as}
use Rattle.cm_manager.proofs.caller.Caller.resolve_row.Goals as goal

pub returns-in-Ended : goal.returns-in-Ended
returns-in-Ended g c =
    runs_as _ _ _ _
    (λ f d a b ends. ended_acts f d _ c.args.inc _ _ _ a b ends (unfollowed _ (ends.apart (not_a_start _ refl)) (ends.unstopped (not_a_stop _ refl))))
    (rw c.in-Ended.is at c.in_ok-began.ensures)

pub returns-in-Joined : goal.returns-in-Joined
returns-in-Joined g c = runs_as _ _ _ _ (λ f d a b joins. joined_acts f d _ c.args.inc _ _ a b joins) (rw c.in-Joined.is at c.in_ok-began.ensures)

pub returns-in-Quiet : goal.returns-in-Quiet
returns-in-Quiet g c = runs_as _ _ _ _ (λ f d a b it. RunsAction.quiet it.0 it.1) (rw c.in-Quiet.is at c.in_ok-began.ensures)

pub returns-in_err-began : goal.returns-in_err-began
returns-in_err-began g c =
    let p = err_from_is_err_and c.from_residual.result c.from_residual.ensures.1 in
    rw (p.1, p.2) (runs_as _ _ _ _ (λ f d a b cut. RunsAction.cut cut) c.in_err-began.ensures)
