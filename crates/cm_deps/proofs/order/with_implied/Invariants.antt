use Rattle.cm_deps.proofs.lemmas.listed.Shaping.{IsFillingFull}
use Rattle.cm_deps.proofs.order.with_implied.Given as goal

abbrev pub invariant-loop-x : goal.invariant-loop-x
invariant-loop-x l = IsFillingFull l.after l.near.items l.full.items l.x
