use Rattle.std.proofs.Common.{rules}
use Rattle.std.specs.Ordering.{is_lt}
use Rattle.std.proofs.lemmas.List.Sorted.{IsPartitionPoint-from_clause}
use Rattle.cm_table.specs.Named.{name_cmp, name_key_at, sought_key}
use Rattle.cm_table.proofs.lemmas.SeekingNamed.{named_parted}
use Rattle.cm_table.proofs.named.count_before.Goals as goal

pub returns : goal.returns
returns g c =
    let w = sought_key c.args.kind c.args.name.now in
    IsPartitionPoint-from_clause (λ k. is_lt (name_cmp (name_key_at g.T.NamedRow.name_in g.T.NamedRow.kind_in c.args.items.now k) w)) c.args.places.now _ c.partition_point.ensures.partitioned (named_parted g.T.NamedRow.name_in g.T.NamedRow.kind_in c.args.items.now c.args.places.now c.requires w) (λ a r q k. search rules)
