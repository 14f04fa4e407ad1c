use Rattle.std.proofs.Common.{rules}
use Rattle.std.proofs.lemmas.List.Sorted.{IsPartitionPoint-from_clause}
use Rattle.cm_table.specs.Offers.{wanted, is_before}
use Rattle.cm_table.proofs.lemmas.Seeking.{parted}
use Rattle.cm_table.proofs.offers.count_before.Goals as goal

pub returns : goal.returns
returns c =
    let w = wanted c.args.to.now c.args.kind c.args.name.now in
    IsPartitionPoint-from_clause (is_before c.args.offers.now w) c.args.places.now _ c.partition_point.ensures.partitioned (parted c.args.offers.now c.args.places.now c.requires w) (λ a r q k. search rules)
