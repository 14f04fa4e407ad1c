use Rattle.std.proofs.Common.{arith, refl, subst, ◌≡◌, IfOk}
use Rattle.std.specs.List.{range_with_len}
use Rattle.std.proofs.lemmas.Iterator.{items_from_collect, YieldsList-from_range}
use Rattle.cm_table.proofs.offers.first_places.Goals as goal

pub returns : goal.returns
returns c =
    subst (λ r. IfOk r (λ w. w.items ≡ range_with_len 0 c.args.count)) c.in_ok-places.was
    (items_from_collect c.collect.result c.collect.ensures.ran (YieldsList-from_range 0 c.args.count c.args.count refl (omega arith)))
