use Rattle.std.proofs.Common.{sym}
use Rattle.std.proofs.lemmas.Result.{err_from_is_err_and}
use Rattle.cm_manager.proofs.lemmas.callers.CallerRuns.{work_may, join_may, begun_runs, joined_runs, needs_runs, quiet_runs, cut_runs}
use Rattle.cm_manager.proofs.caller.Caller.begin.Goals as goal

pub end_turn-outcome-requires : goal.end_turn-outcome-requires
end_turn-outcome-requires g c = (
  c.type_bounds.sync-R,
  work_may _ _ _ _ _ _ _ c.in_ok-reply.ensures.turns (rw (c.in-Begun.is, sym c.into_value-work.ensures) at c.in_ok-reply.ensures.asked)
      c.do_work-ending.ensures.does c.do_work-ending.ensures.fits,
)

pub returns-in-Begun : goal.returns-in-Begun
returns-in-Begun g c =
    begun_runs _ _ _ _ _ _ _ _ _ _ c.in_ok-reply.ensures.turns (rw (c.in-Begun.is, sym c.into_value-work.ensures) at c.in_ok-reply.ensures.asked)
    c.do_work-ending.ensures.does c.do_work-ending.ensures.fits c.do_work-ending.ensures.eager c.end_turn-outcome.ensures.turns c.end_turn-outcome.ensures.told

pub await_turn-outcome-requires : goal.await_turn-outcome-requires
await_turn-outcome-requires g c = (
  c.type_bounds.sync-R,
  join_may _ _ _ _ _ c.in_ok-reply.ensures.turns (rw c.in-Joined.is at c.in_ok-reply.ensures.asked),
)

pub returns-in-Joined : goal.returns-in-Joined
returns-in-Joined g c =
    joined_runs _ _ _ _ _ _ _ c.in_ok-reply.ensures.turns (rw c.in-Joined.is at c.in_ok-reply.ensures.asked) c.await_turn-outcome.ensures.turns c.await_turn-outcome.ensures.told

pub returns-in-Need : goal.returns-in-Need
returns-in-Need g c = needs_runs _ _ _ _ _ c.in_ok-reply.ensures.turns (rw c.in-Need.is at c.in_ok-reply.ensures.asked)

pub returns-in_default : goal.returns-in_default
returns-in_default g c =
    quiet_runs _ _ _ _ _ c.in_ok-reply.ensures.turns c.in_ok-reply.ensures.asked c.in_default.not-Begun c.in_default.not-Joined c.in_default.not-Need

pub returns-in_err-reply : goal.returns-in_err-reply
returns-in_err-reply g c =
    let p = err_from_is_err_and c.from_residual.result c.from_residual.ensures.1 in
    rw (p.1, p.2) (cut_runs c.args.kind c.args.inc _ _ _ c.in_err-reply.ensures.turns c.in_err-reply.ensures.asked)
