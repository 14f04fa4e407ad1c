use Rattle.cm_deps.proofs.lemmas.loops.Rings.{IsWalking}
use Rattle.cm_deps.proofs.ring.walk.Given as goal

abbrev pub invariant-loop-step : goal.invariant-loop-step
invariant-loop-step l = IsWalking l.after l.listed l.start l.seen.items l.passed.items l.node l._step
