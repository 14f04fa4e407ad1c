use Rattle.cm_cache.proofs.lemmas.histories.Folding.{keeping_goes_on}
use Rattle.cm_cache.proofs.laws.keeping_goes_on.Goals as goal

pub returns : goal.returns
returns c = keeping_goes_on
