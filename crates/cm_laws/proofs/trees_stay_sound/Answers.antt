use Rattle.cm_laws.proofs.lemmas.sound.Healthy.{trees_stay_sound}
use Rattle.cm_laws.proofs.trees_stay_sound.Goals as goal

pub returns : goal.returns
returns c = record { sound = trees_stay_sound }
