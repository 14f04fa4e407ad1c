use Rattle.cm_manager.specs.Turns.{world_after}
use Rattle.cm_manager.specs.Asking.{frame_of, IsDue}
use Rattle.cm_steps.specs.Requests.{event_of}
use Rattle.cm_manager.proofs.lemmas.onward.Turning.{Waits}
use Rattle.cm_manager.proofs.manager.Manager.ask.Given as goal

abbrev pub invariant-loop : goal.invariant-loop
invariant-loop g l = record {
  more : (goal.iterator-loop g).can_next l.iterator' × (goal.iterator-loop g).is_finite l.iterator';
  waits : Waits l.fn.pass l.idle;
  due : IsDue (world_after (frame_of l.idle) l.idle.seen) (event_of l.wish);
}
