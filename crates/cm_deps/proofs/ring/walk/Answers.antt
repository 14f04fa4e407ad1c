use Rattle.std.proofs.Common.{◌≡◌, ◌+◌, ◌<◌, [], length, set, true, false, sym, ◌∙◌, subst, arith}
use Rattle.std.proofs.lemmas.List.{get_or_default}
use Rattle.cm_deps.specs.Edges.{is_set, row}
use Rattle.cm_deps.specs.Ring.{IsLeastLeft}
use Rattle.cm_deps.proofs.lemmas.loops.Rings.{IsWalking, walking_more, walked_all}
use Rattle.cm_deps.proofs.ring.walk.Goals as goal

pub loop-step-preserved : goal.loop-step-preserved
loop-step-preserved c =
    let inside : c.loop-step.node < length c.loop-step.seen.items = omega (arith, c.loop-step.invariant.size, c.loop-step.invariant.inside) in
    let unseen : is_set c.loop-step.seen.items c.loop-step.node ≡ false = get_or_default c.loop-step.seen.items c.loop-step.node false c.index.result.now inside ∙ sym c.index.ensures ∙ c.if-index.false in
    let nodes : row c.args.after.now c.loop-step.node ≡ c.as_slice.result.now = get_or_default c.args.after.now c.loop-step.node [] c.index-after-node.result c.loop-step.invariant.inside ∙ sym c.index-after-node.is ∙ sym c.as_slice.ensures in
    let least : IsLeastLeft (row c.args.after.now c.loop-step.node) (is_set c.args.listed.now) c.least_left-node.result = subst (λ l. IsLeastLeft l (is_set c.args.listed.now) c.least_left-node.result) (sym nodes) c.least_left-node.ensures in
    subst (λ p. IsWalking c.args.after.now c.args.listed.now c.args.start (set c.loop-step.seen.items c.loop-step.node true) p c.least_left-node.result (c.loop-step._step + 1)) (sym c.in_ok-push.ensures.items)
    (walking_more c.args.after.now c.args.listed.now c.args.start c.loop-step.seen.items c.loop-step.passed.items c.loop-step.node c.loop-step._step c.least_left-node.result c.requires.below c.loop-step.invariant unseen least)

pub returns : goal.returns
returns c =
    walked_all c.args.after.now c.args.listed.now c.args.start c.loop-step.seen.items c.loop-step.passed.items c.loop-step.node c.loop-step._step c.loop-step.invariant (omega arith)
