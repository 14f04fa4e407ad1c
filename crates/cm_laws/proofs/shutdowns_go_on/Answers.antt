use Rattle.cm_trees.proofs.trees.Ending.{no_dead_end}
use Rattle.cm_laws.proofs.lemmas.sound.Healthy.{trees_stay_sound}
use Rattle.cm_laws.proofs.shutdowns_go_on.Goals as goal

pub returns : goal.returns
returns c = λ f es i r legal. no_dead_end _ _ i r (trees_stay_sound f es legal)
