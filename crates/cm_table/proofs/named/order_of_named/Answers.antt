use Rattle.std.proofs.Common.{rules}
use Rattle.std.specs.Ordering.{is_lt}
use Rattle.std.proofs.lemmas.Fn.{always_returns_same}
use Rattle.cm_table.specs.Named.{name_key, name_cmp, named_cmp}
use Rattle.cm_table.proofs.lemmas.SeekingNamed.{named_weak}
use Rattle.cm_table.proofs.lemmas.lists.Sought.{ordered}
use Rattle.cm_table.proofs.named.order_of_named.Goals as goal

pub returns : goal.returns
returns g c =
    ordered (name_key g.T.NamedRow.name_in g.T.NamedRow.kind_in) name_cmp c.args.items.now c.in_ok-places.places.items c.sort_unstable_by.new.self.items c.in_ok-places.ensures c.sort_unstable_by.ensures.permutation
    (c.sort_unstable_by.ensures.sorted (λ x y. is_lt (named_cmp g.T.NamedRow.name_in g.T.NamedRow.kind_in c.args.items.now x y)) (named_weak g.T.NamedRow.name_in g.T.NamedRow.kind_in c.args.items.now)
    (always_returns_same _ _ _ (λ a r f k. search rules)))
