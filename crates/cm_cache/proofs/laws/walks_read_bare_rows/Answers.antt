use Rattle.cm_cache.proofs.lemmas.trees.Reading.{walks_read_bare_rows}
use Rattle.cm_cache.proofs.laws.walks_read_bare_rows.Goals as goal

pub returns : goal.returns
returns c = walks_read_bare_rows
