use Rattle.std.proofs.Common.{take}
use Rattle.cm_deps.proofs.lemmas.listed.Gathering.{IsAdding}
use Rattle.cm_deps.proofs.edges.add_dependent.Given as goal

abbrev pub invariant-loop-y : goal.invariant-loop-y
invariant-loop-y l = IsAdding l.x (take l.y-index l.nodes) l.fn.before.items l.before.items
