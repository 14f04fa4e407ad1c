use Rattle.cm_manager.specs.declared.began.Launch.TheVariants as launch
use Rattle.cm_manager.proofs.lemmas.callers.CallerRuns.{begun_start, begun_need}
use Rattle.cm_manager.proofs.lemmas.callers.CallerStarts.{failed_first, resolved_first}
use Rattle.cm_manager.proofs.caller.Caller.start_one.Goals as goal

pub loop-init : goal.loop-init
loop-init g c = record { rest = λ t end it. it }

pub returns-in-Ok : goal.returns-in-Ok
returns-in-Ok g c = c.loop.invariant.rest _ c.in-Ok.launch (begun_start c.args.inc _ c.in-Ok.launch _ _ c.in-Ok.ensures c.begin.ensures)

pub returns-in-Some-if_failed : goal.returns-in-Some-if_failed
returns-in-Some-if_failed g c =
    c.loop.invariant.rest _ (launch.Settled c.in-Some-if_failed.failed)
    (failed_first c.args.inc c.in-Err.row c.resolve_row.result c.in-Some-if_failed.failed _ _ _
    (begun_need c.args.inc c.in-Err.row _ _ _ c.in-Err.ensures c.begin.ensures) c.resolve_row.ensures c.in-Some-if_failed.ensures)

pub loop-preserved : goal.loop-preserved
loop-preserved g c =
    resolved_first c.args.inc c.in-Err.row c.resolve_row.result _ _ _ _ c.loop.invariant
    (begun_need c.args.inc c.in-Err.row _ _ _ c.in-Err.ensures c.begin.ensures) c.resolve_row.ensures
    (rw c.in_default.is at c.if_failed.ensures)
