use Rattle.cm_deps.specs.Closure.{IsClosure}
use Rattle.cm_deps.proofs.closure.closure.Given as goal

abbrev pub invariant-loop-x : goal.invariant-loop-x
invariant-loop-x l = IsClosure l.after l.x l.all.items
