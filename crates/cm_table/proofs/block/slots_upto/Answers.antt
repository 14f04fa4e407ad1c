use Rattle.std.proofs.Common.{leb, leb-true, arith, rules, leb-false}
use Rattle.std.proofs.lemmas.List.Sorted.{IsPartitionPoint-from_clause, IsPartitionedBy-leb}
use Rattle.cm_table.specs.Slots.{inc_of}
use Rattle.cm_table.proofs.lemmas.lists.BinarySearch.{increasing_alone}
use Rattle.cm_table.proofs.block.slots_upto.Goals as goal

pub returns : goal.returns
returns c =
    let parted = IsPartitionedBy-leb inc_of c.args.slots.now c.args.inc (increasing_alone inc_of c.args.slots.now c.requires) in
    let point = IsPartitionPoint-from_clause (λ s. leb (inc_of s) c.args.inc) c.args.slots.now _ c.partition_point.ensures.partitioned parted (λ a r q k. search rules) in
    record {
      bound = c.partition_point.ensures.bound;
      low = λ j d lt. leb-true _ _ (point.0 j d (omega arith) lt);
      high = λ j d le lt. leb-false _ _ (point.1 j d le lt);
    }
