use Rattle.cm_deps.proofs.lemmas.listed.Gathering.{IsGathering}
use Rattle.cm_deps.proofs.edges.dependents.Given as goal

abbrev pub invariant-loop-x : goal.invariant-loop-x
invariant-loop-x l = IsGathering l.after l.before.items l.x
