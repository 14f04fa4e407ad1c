use Rattle.std.proofs.Common.{rules}
use Rattle.std.specs.Ordering.{is_lt}
use Rattle.std.proofs.lemmas.Fn.{always_returns_same}
use Rattle.cm_table.specs.Uses.{path_by, path_cmp, use_cmp}
use Rattle.cm_table.proofs.lemmas.SeekingUses.{use_weak}
use Rattle.cm_table.proofs.lemmas.lists.Sought.{ordered}
use Rattle.cm_table.proofs.uses.order_of_uses.Goals as goal

pub returns : goal.returns
returns c =
    ordered path_by path_cmp c.args.uses.now c.in_ok-places.places.items c.sort_unstable_by.new.self.items c.in_ok-places.ensures c.sort_unstable_by.ensures.permutation
    (c.sort_unstable_by.ensures.sorted (λ x y. is_lt (use_cmp c.args.uses.now x y)) (use_weak c.args.uses.now)
    (always_returns_same _ _ _ (λ a r f k. search rules)))
