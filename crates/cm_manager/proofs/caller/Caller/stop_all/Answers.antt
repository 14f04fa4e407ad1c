use Rattle.std.proofs.Common.{Some, None}
use Rattle.cm_manager.proofs.lemmas.callers.CallerStops.{stops_cut, stops_done, stops_on}
use Rattle.cm_manager.proofs.lemmas.shutdowns.ShuttingDown.{done_over, leaving_next}
use Rattle.cm_manager.proofs.caller.Caller.stop_all.Goals as goal

pub loop-init : goal.loop-init
loop-init g c = record { onward = record { rest = λ t end it. it }; leaving = c.requires.leaving }

pub pick_one-requires : goal.pick_one-requires
pick_one-requires g c = (c.type_bounds.sync-R, c.loop.invariant.leaving)

pub returns-in-Done : goal.returns-in-Done
returns-in-Done g c = record {
  runs = c.loop.invariant.onward.rest _ None (stops_done _ _ _ _ c.in-Done.is c.pick_one.ensures);
  over = done_over c.marks_stay.ensures.stays c.shutdowns_last.ensures.done _ _ _ _ _ _ _ c.loop.invariant.leaving c.in-Done.is c.pick_one.ensures.helps;
}

pub returns-in-Cut : goal.returns-in-Cut
returns-in-Cut g c = record {
  runs = c.loop.invariant.onward.rest _ (Some c.in-Cut.refusal) (stops_cut _ _ _ _ _ c.in-Cut.is c.pick_one.ensures);
  over = tt;
}

pub loop-preserved : goal.loop-preserved
loop-preserved g c = record {
  onward = stops_on _ _ _ _ _ c.loop.invariant.onward c.in-Further.is c.pick_one.ensures;
  leaving = leaving_next c.marks_stay.ensures.stays _ _ _ c.pick_one.ensures.helps.same c.loop.invariant.leaving;
}
