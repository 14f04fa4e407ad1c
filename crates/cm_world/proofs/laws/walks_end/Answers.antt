use Rattle.cm_world.proofs.lemmas.trees.Walks.{walks_end}
use Rattle.cm_world.proofs.laws.walks_end.Goals as goal

pub returns : goal.returns
returns c = walks_end
