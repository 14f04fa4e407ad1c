use Rattle.cm_world.proofs.lemmas.trees.Walks.{begins_down, steps_fall}
use Rattle.cm_world.proofs.laws.steps_fall.Goals as goal

pub returns : goal.returns
returns c = record { begins = begins_down; falls = steps_fall }
