use Rattle.cm_cache.proofs.lemmas.trees.Staying.{bare_rows_stay, walks_stay}
use Rattle.cm_cache.proofs.laws.walks_stay.Goals as goal

pub returns : goal.returns
returns c = record { bare = bare_rows_stay; walks = walks_stay }
