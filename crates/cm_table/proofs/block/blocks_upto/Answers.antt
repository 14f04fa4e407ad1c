use Rattle.std.proofs.Common.{leb, leb-true, arith, rules, leb-false}
use Rattle.std.proofs.lemmas.List.Sorted.{IsPartitionPoint-from_clause, IsPartitionedBy-leb}
use Rattle.cm_table.specs.Keys.{first_key}
use Rattle.cm_table.specs.Slots.{inc_of, slots_in}
use Rattle.cm_table.proofs.lemmas.lists.BinarySearch.{begin_higher}
use Rattle.cm_table.proofs.block.blocks_upto.Goals as goal

pub returns : goal.returns
returns c =
    let parted = IsPartitionedBy-leb (λ b. first_key inc_of (slots_in b)) c.args.blocks.now c.args.inc (begin_higher inc_of slots_in c.args.blocks.now c.requires.filled c.requires.increasing) in
    let point = IsPartitionPoint-from_clause (λ b. leb (first_key inc_of (slots_in b)) c.args.inc) c.args.blocks.now _ c.partition_point.ensures.partitioned parted (λ a r q k. search rules) in
    record {
      bound = c.partition_point.ensures.bound;
      low = λ j d lt. leb-true _ _ (point.0 j d (omega arith) lt);
      high = λ j d le lt. leb-false _ _ (point.1 j d le lt);
    }
