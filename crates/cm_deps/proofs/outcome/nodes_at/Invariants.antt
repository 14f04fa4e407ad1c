use Rattle.std.proofs.Common.{◌≡◌, take}
use Rattle.std.specs.Prelude.{map}
use Rattle.cm_deps.specs.Nodes.{at}
use Rattle.cm_deps.proofs.outcome.nodes_at.Given as goal

abbrev pub invariant-loop-number : goal.invariant-loop-number
invariant-loop-number l = l.list ≡ map (at l.nodes) (take l.number-index l.numbers)
