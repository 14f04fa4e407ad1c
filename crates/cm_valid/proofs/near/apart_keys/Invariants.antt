use Rattle.cm_valid.proofs.lemmas.Near.{Walked}
use Rattle.cm_valid.proofs.near.apart_keys.Given as goal

abbrev pub invariant-loop-index : goal.invariant-loop-index
invariant-loop-index l = Walked l.keys l.index l.outer l.apart
