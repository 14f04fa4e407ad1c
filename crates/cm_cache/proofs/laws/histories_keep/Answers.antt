use Rattle.cm_cache.proofs.lemmas.histories.Folding.{histories_keep}
use Rattle.cm_cache.proofs.laws.histories_keep.Goals as goal

pub returns : goal.returns
returns c = histories_keep
