use Rattle.cm_manager.proofs.lemmas.onward.Turning.{Waits}
use Rattle.cm_manager.proofs.manager.Manager.await_turn.Given as goal

abbrev pub invariant-loop : goal.invariant-loop
invariant-loop g l = record {
  more : (goal.iterator-loop g).can_next l.iterator' × (goal.iterator-loop g).is_finite l.iterator';
  waits : Waits l.fn.pass l.idle;
}
