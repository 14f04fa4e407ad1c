use Rattle.cm_world.proofs.lemmas.examples.Fresh.{starts_sound}
use Rattle.cm_world.proofs.laws.starts_sound.Goals as goal

pub returns : goal.returns
returns c = starts_sound
