use Rattle.cm_laws.proofs.lemmas.AllLaws.{histories_keep_laws}
use Rattle.cm_laws.proofs.histories_keep_laws.Goals as goal

pub returns : goal.returns
returns c = histories_keep_laws
