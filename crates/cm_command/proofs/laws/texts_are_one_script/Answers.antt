use Rattle.cm_command.proofs.lemmas.scripts.OneScript.{texts_are_one_script_lem}
use Rattle.cm_command.proofs.laws.texts_are_one_script.Goals as goal

pub returns : goal.returns
returns c = texts_are_one_script_lem
