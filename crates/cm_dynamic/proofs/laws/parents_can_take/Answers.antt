use Rattle.cm_dynamic.proofs.lemmas.children.Taking.{can_take}
use Rattle.cm_dynamic.proofs.laws.parents_can_take.Goals as goal

pub returns : goal.returns
returns c = can_take
