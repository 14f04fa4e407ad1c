use Rattle.cm_decl.proofs.lemmas.faults.FirstFaults.{fault_once, valid_faultless}
use Rattle.cm_decl.proofs.laws.faults_once.Goals as goal

pub returns-clause-once : goal.returns-clause-once
returns-clause-once c = fault_once

pub returns-clause-valid : goal.returns-clause-valid
returns-clause-valid c = valid_faultless
