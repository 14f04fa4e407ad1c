use Rattle.cm_walk.proofs.lemmas.ways.Leading.{finds_as_located}
use Rattle.cm_walk.proofs.laws.finds_as_located.Goals as goal

pub returns : goal.returns
returns c = finds_as_located
