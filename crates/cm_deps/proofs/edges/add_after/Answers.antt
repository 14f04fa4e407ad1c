use Rattle.std.proofs.Common.{◌≡◌, ◌<◌, [], length, sym, ◌∙◌, ap, arith}
use Rattle.std.proofs.lemmas.List.{get_or_default}
use Rattle.cm_deps.specs.Edges.{holds, row}
use Rattle.cm_deps.proofs.edges.add_after.Goals as goal

pub add_new-requires-clause-inside : goal.add_new-requires-clause-inside
add_new-requires-clause-inside c =
    let nodes : row c.args.after.now c.args.node ≡ c.as_slice.result.now = get_or_default c.args.after.now c.args.node [] c.index-after-node.result c.requires.inside ∙ sym c.index-after-node.is ∙ sym c.as_slice.ensures in
    λ y held. (let low : y < length c.args.after.now = c.requires.below c.args.node y (ap (λ l. holds l y) nodes ∙ held) in omega (arith, c.requires.size))

pub add_new-requires-clause-seen : goal.add_new-requires-clause-seen
add_new-requires-clause-seen c = c.requires.seen

pub returns-clause-added : goal.returns-clause-added
returns-clause-added c =
    let nodes : row c.args.after.now c.args.node ≡ c.as_slice.result.now = get_or_default c.args.after.now c.args.node [] c.index-after-node.result c.requires.inside ∙ sym c.index-after-node.is ∙ sym c.as_slice.ensures in
    record {
      added = λ y held. c.in_ok-add_new.ensures.added y (ap (λ l. holds l y) (sym nodes) ∙ held);
      only = λ y held out. ap (λ l. holds l y) nodes ∙ c.in_ok-add_new.ensures.only y held out;
      longer = c.in_ok-add_new.ensures.longer;
    }
