use Rattle.cm_valid.proofs.lemmas.Near.{in_order, rows_apart}
use Rattle.cm_valid.proofs.near.apart.Goals as goal

pub apart_keys-requires : goal.apart_keys-requires
apart_keys-requires g c = in_order c.as_slice.result.now (rw c.as_slice.ensures.value c.in_ok-sort.ensures.sorted)

pub returns : goal.returns
returns g c =
    rows_apart g.T.Keyed.key c.args.rows.now c.in_ok-keys.keys.items c.as_slice.result.now c.apart_keys.result c.in_ok-keys.ensures
    (rw c.as_slice.ensures.value c.in_ok-sort.ensures.permutation) c.apart_keys.ensures
