use Rattle.cm_deps.proofs.lemmas.listed.Gathering.{IsFilling}
use Rattle.cm_deps.proofs.edges.empty_rows.Given as goal

abbrev pub invariant-loop-index : goal.invariant-loop-index
invariant-loop-index l = IsFilling l.rows.items l._index
