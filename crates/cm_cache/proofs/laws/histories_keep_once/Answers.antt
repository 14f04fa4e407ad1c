use Rattle.cm_cache.proofs.lemmas.histories.Folding.{histories_keep_once}
use Rattle.cm_cache.proofs.laws.histories_keep_once.Goals as goal

pub returns : goal.returns
returns c = histories_keep_once
