use Rattle.std.proofs.Common.{◌<◌, length, take, true, sym, ◌∙◌, ap, get_or, arith}
use Rattle.std.proofs.lemmas.List.{length-set, take_more}
use Rattle.cm_deps.specs.Edges.{holds}
use Rattle.cm_deps.proofs.lemmas.listed.Listing.{holds_at, flag_more}
use Rattle.cm_deps.proofs.ring.flags.Goals as goal

pub index_mut-requires : goal.index_mut-requires
index_mut-requires c =
    let inside : get_or c.args.order.now c.loop-x.x-index 0 < c.args.count = c.requires.inside (get_or c.args.order.now c.loop-x.x-index 0) (holds_at c.args.order.now c.loop-x.x-index c.loop-x-test.true) in
    omega (arith, c.loop-x.invariant.size)

pub loop-x-preserved : goal.loop-x-preserved
loop-x-preserved c =
    let inside : get_or c.args.order.now c.loop-x.x-index 0 < c.args.count = c.requires.inside (get_or c.args.order.now c.loop-x.x-index 0) (holds_at c.args.order.now c.loop-x.x-index c.loop-x-test.true) in
    let there : get_or c.args.order.now c.loop-x.x-index 0 < length c.loop-x.flags.items = omega (arith, c.loop-x.invariant.size) in
    record {
      size = length-set c.loop-x.flags.items (get_or c.args.order.now c.loop-x.x-index 0) true ∙ c.loop-x.invariant.size;
      listed = λ x. flag_more c.loop-x.flags.items (take c.loop-x.x-index c.args.order.now) (get_or c.args.order.now c.loop-x.x-index 0) there c.loop-x.invariant.listed x
          ∙ ap (λ l. holds l x) (sym (take_more c.args.order.now c.loop-x.x-index 0 c.loop-x-test.true));
    }
