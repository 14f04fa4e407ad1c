use Rattle.cm_walk.proofs.lemmas.routes.NoUse.{says_no_use}
use Rattle.cm_walk.proofs.laws.says_no_use.Goals as goal

pub returns : goal.returns
returns c = says_no_use
