use Rattle.std.proofs.Common.{refl}
use Rattle.cm_world.proofs.laws.answers_fresh.Goals as goal

pub returns : goal.returns
returns c = record { start = refl; stop = refl; listing = refl; tail = refl }
