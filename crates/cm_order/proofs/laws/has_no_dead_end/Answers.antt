use Rattle.cm_trees.proofs.trees.Ending.{no_dead_end}
use Rattle.cm_order.proofs.laws.has_no_dead_end.Goals as goal

pub returns : goal.returns
returns c = no_dead_end
