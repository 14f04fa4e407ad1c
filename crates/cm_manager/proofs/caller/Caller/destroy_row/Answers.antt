use Rattle.cm_manager.proofs.lemmas.callers.CallerStops.{destroyed_runs, unshut_runs}
use Rattle.cm_manager.proofs.caller.Caller.destroy_row.Goals as goal

pub returns-in-Some : goal.returns-in-Some
returns-in-Some g c = unshut_runs c.args.inc _ _ _ _ c.in-Some.is c.shut_row.ensures.runs

pub purge-requires : goal.purge-requires
purge-requires g c = (
  c.type_bounds.sync-R,
  (rw c.in_default.is at c.shut_row.ensures.marked, rw c.in_default.is at c.shut_row.ensures.over),
)

pub returns : goal.returns
returns g c = destroyed_runs c.args.inc _ _ _ _ _ c.in_default.is c.shut_row.ensures.runs c.purge.ensures.turns c.purge.ensures.purged
