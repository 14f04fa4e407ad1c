use Rattle.cm_cache.proofs.lemmas.puts.Putting.{what_is_put_is_kept}
use Rattle.cm_cache.proofs.laws.what_is_put_is_kept.Goals as goal

pub returns : goal.returns
returns c = what_is_put_is_kept
