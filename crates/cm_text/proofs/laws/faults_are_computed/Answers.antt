use Rattle.cm_text.proofs.lemmas.pieces.Fault.{faults_are_computed}
use Rattle.cm_text.proofs.laws.faults_are_computed.Goals as goal

pub returns : goal.returns
returns c = faults_are_computed
