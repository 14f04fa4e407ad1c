use Rattle.std.proofs.Common.{◌∙◌}
use Rattle.cm_world.specs.declared.event.Event.TheVariants as event
use Rattle.cm_manager.proofs.lemmas.onward.Turning.{waits_none, waits_more, waits_same, waits_told, waits_joined}
use Rattle.cm_manager.proofs.manager.Manager.await_turn.Goals as goal

pub loop-init : goal.loop-init
loop-init g c = record { more = (tt, tt); waits = waits_none c.args.pass }

pub await_once-after-requires : goal.await_once-after-requires
await_once-after-requires g c = record {
  lock = c.loop.invariant.waits.lock ∙ c.requires.lock;
  joined = waits_joined c.args.pass c.loop.idle c.args.action c.loop.invariant.waits c.requires.joined;
}

pub loop-preserved : goal.loop-preserved
loop-preserved g c = record {
  more = (tt, tt);
  waits = waits_more _ _ _ c.loop.invariant.waits c.await_once-after.ensures.same (rw c.in-None-outcome.is at c.await_once-after.ensures.awaited);
}

pub returns-in-Some-outcome : goal.returns-in-Some-outcome
returns-in-Some-outcome g c = record {
  same = waits_same _ _ _ c.loop.invariant.waits c.await_once-after.ensures.same;
  told = waits_told (event.Await c.args.action) c.args.pass c.loop.idle _ c.in-Some-outcome.outcome c.loop.invariant.waits (rw c.in-Some-outcome.is at c.await_once-after.ensures.awaited);
}
