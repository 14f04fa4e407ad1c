use Rattle.std.proofs.Common.{ℕ, leb, leb-true, arith, rules, leb-false}
use Rattle.std.proofs.lemmas.List.Sorted.{IsPartitionPoint-from_clause, IsPartitionedBy-leb}
use Rattle.cm_table.proofs.lemmas.lists.BinarySearch.{increasing_alone}
use Rattle.cm_table.proofs.slot.kids_upto.Goals as goal

pub returns : goal.returns
returns c =
    let parted = IsPartitionedBy-leb (λ (k : ℕ). k) c.args.kids.now.items c.args.above (increasing_alone (λ (k : ℕ). k) c.args.kids.now.items c.requires) in
    let point = IsPartitionPoint-from_clause (λ k. leb k c.args.above) c.args.kids.now.items _ c.partition_point.ensures.partitioned parted (λ a r q k. search rules) in
    record {
      bound = omega (arith, c.partition_point.ensures.bound);
      low = λ j d lt. leb-true _ _ (point.0 j d (omega arith) lt);
      high = λ j d le lt. leb-false _ _ (point.1 j d le lt);
    }
