use Rattle.cm_laws.proofs.lemmas.destroyed.Gone.{doomed_are_destroyed, destroyed_stay_gone}
use Rattle.cm_laws.proofs.the_destroyed_stay_gone.Goals as goal

pub returns : goal.returns
returns c = record { doomed = doomed_are_destroyed; gone = destroyed_stay_gone }
