use Rattle.cm_deps.proofs.lemmas.given.OneMore.{one_more}
use Rattle.cm_deps.proofs.laws.would_depend_is_one_more.Goals as goal

pub returns : goal.returns
returns c = λ d dynamic collection k y is acyclic. one_more d dynamic collection k is acyclic y
