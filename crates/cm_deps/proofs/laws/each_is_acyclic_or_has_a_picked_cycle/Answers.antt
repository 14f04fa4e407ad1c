use Rattle.cm_deps.proofs.lemmas.given.Picked.{acyclic_or_picked}
use Rattle.cm_deps.proofs.laws.each_is_acyclic_or_has_a_picked_cycle.Goals as goal

pub returns : goal.returns
returns c = λ d dynamic. acyclic_or_picked d dynamic
