use Rattle.cm_world.proofs.lemmas.examples.Routes.{full_is_legal}
use Rattle.cm_world.proofs.laws.fills.Goals as goal

pub returns : goal.returns
returns c = full_is_legal
