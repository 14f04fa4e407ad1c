use Rattle.cm_world.proofs.lemmas.trees.Once.{replies_once}
use Rattle.cm_world.proofs.laws.replies_once.Goals as goal

pub returns : goal.returns
returns c = replies_once
