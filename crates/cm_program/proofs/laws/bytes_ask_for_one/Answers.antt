use Rattle.cm_program.proofs.lemmas.texts.ScriptLaws.{bytes_ask_for_one_lem}
use Rattle.cm_program.proofs.laws.bytes_ask_for_one.Goals as goal

pub returns : goal.returns
returns c = bytes_ask_for_one_lem
