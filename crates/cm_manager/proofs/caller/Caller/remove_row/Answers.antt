use Rattle.std.proofs.Common.{true}
use Rattle.cm_manager.proofs.lemmas.callers.CallerStops.{removed_runs, unstopped_runs}
use Rattle.cm_manager.proofs.lemmas.shutdowns.ShuttingDown.{marked_next}
use Rattle.cm_manager.proofs.caller.Caller.remove_row.Goals as goal

pub purge-requires : goal.purge-requires
purge-requires g c = (
  c.type_bounds.sync-R,
  (
    marked_next c.marks_stay.ensures.stays true c.args.inc _ _ c.stop_all.ensures.runs.helps.same c.requires.marked,
    rw c.in_default.is at c.stop_all.ensures.over,
  ),
)

pub returns-in-Some : goal.returns-in-Some
returns-in-Some g c = unstopped_runs c.args.inc _ _ _ _ c.in-Some.is c.stop_all.ensures.runs

pub returns : goal.returns
returns g c = removed_runs c.args.inc _ _ _ _ _ c.in_default.is c.stop_all.ensures.runs c.purge.ensures.turns c.purge.ensures.purged
