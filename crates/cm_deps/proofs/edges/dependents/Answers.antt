use Rattle.std.proofs.Common.{◌≡◌, ◌<◌, [], length, sym, ◌∙◌, ap, arith}
use Rattle.std.proofs.lemmas.List.{get_or_default}
use Rattle.cm_deps.specs.Edges.{holds, row}
use Rattle.cm_deps.proofs.lemmas.listed.Gathering.{gathering_none, gathering_more, gathered}
use Rattle.cm_deps.proofs.edges.dependents.Goals as goal

pub loop-x-init : goal.loop-x-init
loop-x-init c = gathering_none c.args.after.now c.in_ok-before.before.items c.in_ok-before.ensures.size c.in_ok-before.ensures.empty

pub add_dependent-requires : goal.add_dependent-requires
add_dependent-requires c =
    let nodes : row c.args.after.now c.loop-x.x ≡ c.as_slice.result.now = get_or_default c.args.after.now c.loop-x.x [] c.index-after-x.result c.loop-x-test.true ∙ sym c.index-after-x.is ∙ sym c.as_slice.ensures in
    λ y held. (let low : y < length c.args.after.now = c.requires c.loop-x.x y (ap (λ l. holds l y) nodes ∙ held) in omega (arith, c.loop-x.invariant.size))

pub loop-x-preserved : goal.loop-x-preserved
loop-x-preserved c =
    let nodes : row c.args.after.now c.loop-x.x ≡ c.as_slice.result.now = get_or_default c.args.after.now c.loop-x.x [] c.index-after-x.result c.loop-x-test.true ∙ sym c.index-after-x.is ∙ sym c.as_slice.ensures in
    gathering_more c.args.after.now c.loop-x.before.items c.add_dependent.new.before.items c.loop-x.x c.loop-x-test.true c.loop-x.invariant (record {
      size = c.in_ok-add_dependent.ensures.size;
      added = λ y held. c.in_ok-add_dependent.ensures.added y (ap (λ l. holds l y) (sym nodes) ∙ held);
      kept = c.in_ok-add_dependent.ensures.kept;
      only = c.in_ok-add_dependent.ensures.only;
    })

pub returns : goal.returns
returns c = record {
  size = c.loop-x.invariant.size;
  below = c.loop-x.invariant.below;
  covers = gathered c.args.after.now c.loop-x.before.items c.loop-x.x c.loop-x-test.false c.loop-x.invariant;
}
