use Rattle.std.proofs.Common.{Some, None}
use Rattle.cm_manager.proofs.lemmas.callers.CallerRuns.{known_run}
use Rattle.cm_manager.proofs.lemmas.callers.CallerStarts.{whole_started, wanting_children, settled_start}
use Rattle.cm_manager.proofs.caller.Caller.start_row.Goals as goal

pub returns-in-Settled : goal.returns-in-Settled
returns-in-Settled g c = settled_start c.args.inc _ _ _ _ c.in-Settled.is c.start_one.ensures

pub start_all-requires : goal.start_all-requires
start_all-requires g c = (c.type_bounds.sync-R, known_run _ _ _ c.start_one.ensures)

pub returns-in-None : goal.returns-in-None
returns-in-None g c =
    whole_started c.args.inc c.in-Children.action _ _ _ _ None _ _ _ c.in-Children.is c.in-Ok.ensures.all c.new.ensures.items
    c.start_one.ensures (rw c.in-None.is at c.start_all.ensures)

pub returns-in-Some : goal.returns-in-Some
returns-in-Some g c =
    whole_started c.args.inc c.in-Children.action _ _ _ _ (Some c.in-Some.refusal) _ _ _ c.in-Children.is c.in-Ok.ensures.all c.new.ensures.items
    c.start_one.ensures (rw c.in-Some.is at c.start_all.ensures)

pub returns-in_default : goal.returns-in_default
returns-in_default g c = wanting_children c.args.inc c.in-Children.action _ _ _ _ c.in-Children.is c.in_default.ensures.wanting c.start_one.ensures
