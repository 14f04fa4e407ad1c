use Rattle.std.proofs.Common.{rules}
use Rattle.std.specs.Ordering.{is_lt}
use Rattle.std.proofs.lemmas.List.Sorted.{IsPartitionPoint-from_clause}
use Rattle.cm_table.specs.Uses.{path_at, path_cmp}
use Rattle.cm_table.proofs.lemmas.SeekingUses.{uses_parted}
use Rattle.cm_table.proofs.uses.count_before.Goals as goal

pub returns : goal.returns
returns c =
    let path = c.args.path.now in
    IsPartitionPoint-from_clause (λ k. is_lt (path_cmp (path_at c.args.uses.now k) path)) c.args.places.now _ c.partition_point.ensures.partitioned (uses_parted c.args.uses.now c.args.places.now c.requires path) (λ a r q k. search rules)
