use Rattle.std.proofs.Common.{rules}
use Rattle.std.specs.Ordering.{is_lt}
use Rattle.std.proofs.lemmas.Fn.{always_returns_same}
use Rattle.cm_table.specs.Offers.{key_by, key_cmp, place_cmp}
use Rattle.cm_table.proofs.lemmas.Seeking.{place_weak}
use Rattle.cm_table.proofs.lemmas.lists.Sought.{ordered}
use Rattle.cm_table.proofs.offers.order_of.Goals as goal

pub returns : goal.returns
returns c =
    ordered key_by key_cmp c.args.offers.now c.in_ok-places.places.items c.sort_unstable_by.new.self.items c.in_ok-places.ensures c.sort_unstable_by.ensures.permutation
    (c.sort_unstable_by.ensures.sorted (λ x y. is_lt (place_cmp c.args.offers.now x y)) (place_weak c.args.offers.now)
    (always_returns_same _ _ _ (λ a r f k. search rules)))
