use Rattle.cm_cache.proofs.lemmas.histories.Going.{nothing_at_first, beside_is_right, beside_is_number, beside_is_few}
use Rattle.cm_cache.proofs.laws.kept_beside.Goals as goal

pub returns : goal.returns
returns c = record { first = nothing_at_first; right = beside_is_right; number = beside_is_number; few = beside_is_few }
