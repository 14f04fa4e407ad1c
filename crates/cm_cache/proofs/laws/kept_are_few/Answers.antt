use Rattle.cm_cache.proofs.lemmas.histories.Folding.{kept_are_few}
use Rattle.cm_cache.proofs.laws.kept_are_few.Goals as goal

pub returns : goal.returns
returns c = kept_are_few
