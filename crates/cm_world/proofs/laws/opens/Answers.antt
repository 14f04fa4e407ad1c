use Rattle.cm_world.proofs.lemmas.examples.Actions.{opened_is_legal}
use Rattle.cm_world.proofs.laws.opens.Goals as goal

pub returns : goal.returns
returns c = opened_is_legal
