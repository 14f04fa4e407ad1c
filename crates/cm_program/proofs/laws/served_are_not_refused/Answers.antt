use Rattle.cm_program.proofs.lemmas.texts.ScriptLaws.{served_are_not_refused_lem}
use Rattle.cm_program.proofs.laws.served_are_not_refused.Goals as goal

pub returns : goal.returns
returns c = served_are_not_refused_lem
