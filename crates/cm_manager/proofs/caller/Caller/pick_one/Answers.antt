use Rattle.std.proofs.Common.{sym}
use Rattle.cm_manager.proofs.lemmas.callers.CallerStops.{pick_cut, pick_done, pick_may, pick_off, pick_on}
use Rattle.cm_manager.proofs.lemmas.shutdowns.ShuttingDown.{no_other_pick}
use Rattle.cm_manager.proofs.caller.Caller.pick_one.Goals as goal

pub ask-requires : goal.ask-requires
ask-requires g c = (c.type_bounds.sync-R, c.requires.leaving)

pub returns-in-Err : goal.returns-in-Err
returns-in-Err g c = pick_cut c.args.target _ _ _ c.ask.ensures.turns (rw c.in-Err.is at c.ask.ensures.asked)

pub returns-in-Done : goal.returns-in-Done
returns-in-Done g c = pick_done c.args.target _ _ c.ask.ensures.turns (rw (c.in-Ok.is, c.in-Done.is) at c.ask.ensures.asked)

pub returns-in-ShutDown : goal.returns-in-ShutDown
returns-in-ShutDown g c = pick_off c.args.target _ _ _ c.ask.ensures.turns (rw (c.in-Ok.is, c.in-ShutDown.is) at c.ask.ensures.asked)

pub end_turn-outcome-requires : goal.end_turn-outcome-requires
end_turn-outcome-requires g c = (
  c.type_bounds.sync-R,
  pick_may c.pickers_end.ensures.picks c.args.target _ _ _ _ _ c.ask.ensures.turns (rw (c.in-Ok.is, c.in-Stopping.is, sym c.into_value-work.ensures) at c.ask.ensures.asked)
      c.do_work-ending.ensures.does c.do_work-ending.ensures.fits,
)

pub unreachable-requires : goal.unreachable-requires
unreachable-requires g c =
    no_other_pick c.args.target _ _ _ c.ask.ensures.turns.pass (rw c.in-Ok.is at c.ask.ensures.asked)
    c.in_default.not-Done c.in_default.not-ShutDown c.in_default.not-Stopping

pub returns-in-Stopping : goal.returns-in-Stopping
returns-in-Stopping g c =
    pick_on c.args.target _ _ _ _ _ _ _ c.ask.ensures.turns (rw (c.in-Ok.is, c.in-Stopping.is, sym c.into_value-work.ensures) at c.ask.ensures.asked)
    c.do_work-ending.ensures.does c.end_turn-outcome.ensures.turns c.end_turn-outcome.ensures.told
