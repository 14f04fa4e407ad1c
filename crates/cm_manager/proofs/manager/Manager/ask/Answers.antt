use Rattle.std.proofs.Common.{Ok, ◌∙◌}
use Rattle.cm_manager.proofs.lemmas.left.Due.{due_next}
use Rattle.cm_manager.proofs.lemmas.onward.Turning.{waits_none, waits_same, waits_turned, waits_asked}
use Rattle.cm_manager.proofs.manager.Manager.ask.Goals as goal

pub loop-init : goal.loop-init
loop-init g c = record {
  more = (tt, tt);
  waits = waits_none c.args.pass;
  due = c.requires.due;
}

pub ask_once-after-requires : goal.ask_once-after-requires
ask_once-after-requires g c = record {
  lock = c.loop.invariant.waits.lock ∙ c.requires.lock;
  due = c.loop.invariant.due;
}

pub loop-preserved : goal.loop-preserved
loop-preserved g c = record {
  more = (tt, tt);
  waits =
      waits_turned _ _ _ _ _ c.in-Err-Busy.field-0 c.loop.invariant.waits c.ask_once-after.ensures.same c.in-Err-Busy.is
      c.ask_once-after.ensures.turned;
  due = due_next c.due_events_stay.ensures.stays _ _ _ c.ask_once-after.ensures.same c.loop.invariant.due;
}

pub returns-in-Ok : goal.returns-in-Ok
returns-in-Ok g c = record {
  same = waits_same _ _ _ c.loop.invariant.waits c.ask_once-after.ensures.same;
  asked = waits_asked _ _ c.loop.idle c.ask_once-after.result.0 (Ok c.in-Ok.reply) c.loop.invariant.waits (rw c.in-Ok.is at c.ask_once-after.ensures.turned);
}
