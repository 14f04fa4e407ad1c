use Rattle.cm_dynamic.proofs.lemmas.graphs.Graphs.{some_limit}
use Rattle.cm_dynamic.proofs.laws.each_room_is_of_some_limit.Goals as goal

pub returns : goal.returns
returns c = some_limit
