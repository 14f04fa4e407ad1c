use Rattle.cm_world.proofs.lemmas.examples.Shutdowns.{doomed_is_legal, pick_waits, purged_is_legal}
use Rattle.cm_world.proofs.laws.destroys.Goals as goal

pub returns : goal.returns
returns c = record { doomed = doomed_is_legal; waits = pick_waits; purged = purged_is_legal }
