use Rattle.cm_world.proofs.lemmas.trees.Chains.{walked_once}
use Rattle.cm_world.proofs.laws.walks_once.Goals as goal

pub returns : goal.returns
returns c = walked_once
