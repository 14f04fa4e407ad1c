use Rattle.std.proofs.Common.{◌≡◌, length, subst, arith}
use Rattle.cm_deps.proofs.lemmas.listed.Shaping.{IsFillingFull, full_of}
use Rattle.cm_deps.proofs.order.with_implied.Goals as goal

pub returns : goal.returns
returns c =
    let last : c.loop-x.x ≡ length c.args.after.now = omega arith in
    full_of c.args.after.now c.args.reached.now c.in_ok-near.near.items c.loop-x.full.items c.requires.below c.requires.some c.in_ok-near.ensures.listed
    (subst (IsFillingFull c.args.after.now c.in_ok-near.near.items c.loop-x.full.items) last c.loop-x.invariant)
