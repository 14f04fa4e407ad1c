use Rattle.cm_command.proofs.lemmas.scripts.OneScript.{scripts_have_no_fault_lem}
use Rattle.cm_command.proofs.laws.scripts_have_no_fault.Goals as goal

pub returns : goal.returns
returns c = scripts_have_no_fault_lem
