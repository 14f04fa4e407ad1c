-- Inside.
-- The order of the nodes of a realm graph.
use Rattle.std.specs.Cmp.{IsTotalOrder}
use Rattle.std.proofs.lemmas.Cmp.{on_total, then_total, nat_cmp_total, nat_list_cmp_total}
use Rattle.cm_decl.specs.Words.{node_text}
use Rattle.cm_decl.specs.NodeOrder.{rank, node_coll_length, node_cmp}

-- the order is total
pub node_cmp_total : IsTotalOrder node_cmp
node_cmp_total =
    then_total (on_total rank nat_cmp_total)
    (then_total (on_total node_text nat_list_cmp_total) (on_total node_coll_length nat_cmp_total))
