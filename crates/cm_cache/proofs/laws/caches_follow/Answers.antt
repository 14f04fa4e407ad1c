use Rattle.cm_cache.proofs.lemmas.puts.Putting.{uses_are_kept, puts_add_uses}
use Rattle.cm_cache.proofs.laws.caches_follow.Goals as goal

pub returns : goal.returns
returns c = record { uses = uses_are_kept; puts = puts_add_uses }
