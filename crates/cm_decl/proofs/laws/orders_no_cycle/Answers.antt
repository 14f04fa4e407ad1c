use Rattle.cm_decl.proofs.lemmas.orders.Orders.{ordered_acyclic}
use Rattle.cm_decl.proofs.laws.orders_no_cycle.Goals as goal

pub returns : goal.returns
returns c = ordered_acyclic
