use Rattle.cm_manager.proofs.lemmas.callers.CallerStops.{swept_runs, unswept_runs}
use Rattle.cm_manager.proofs.lemmas.onward.Onward.{known_next}
use Rattle.cm_manager.proofs.lemmas.shutdowns.Sweepings.{reap_marks, reaps_only}
use Rattle.cm_manager.proofs.caller.Caller.sweep.Goals as goal

pub clear-requires-clause-known : goal.clear-requires-clause-known
clear-requires-clause-known g c κs within = known_next _ _ c.ask.ensures.turns.pass

pub clear-requires-clause-marked : goal.clear-requires-clause-marked
clear-requires-clause-marked g c κs within =
    reap_marks c.reaps_marked.ensures c.args.inc c.in-Reaping.rows _ _ c.ask.ensures.turns.pass (rw (c.in-Ok.is, c.in-Reaping.is) at c.ask.ensures.asked)

pub returns : goal.returns
returns g c = swept_runs c.args.inc _ _ _ _ _ c.ask.ensures.turns (rw (c.in-Ok.is, c.in-Reaping.is) at c.ask.ensures.asked) c.clear.ensures

pub returns-in-Err : goal.returns-in-Err
returns-in-Err g c = unswept_runs c.args.inc _ _ _ c.ask.ensures.turns (rw c.in-Err.is at c.ask.ensures.asked)

pub unreachable-requires : goal.unreachable-requires
unreachable-requires g c = reaps_only c.args.inc _ _ _ c.ask.ensures.turns.pass (rw c.in-Ok.is at c.ask.ensures.asked) c.in_default.not-Reaping
