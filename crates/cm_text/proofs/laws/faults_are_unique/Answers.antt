use Rattle.cm_text.proofs.lemmas.pieces.Cover.{faults_are_unique}
use Rattle.cm_text.proofs.laws.faults_are_unique.Goals as goal

pub returns : goal.returns
returns c = faults_are_unique
