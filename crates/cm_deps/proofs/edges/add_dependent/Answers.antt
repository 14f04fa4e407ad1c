use Rattle.std.proofs.Common.{◌≡◌, ◌+◌, ◌<◌, [], ◌∷◌, ◌++◌, length, take, set, sym, ◌∙◌, ap, subst, get_or, arith}
use Rattle.std.proofs.lemmas.List.{get_or_default, take_all}
use Rattle.cm_deps.specs.Edges.{holds, row}
use Rattle.cm_deps.proofs.lemmas.listed.Listing.{holds_at}
use Rattle.cm_deps.proofs.lemmas.listed.Gathering.{IsAdding, adding_none, adding_more}
use Rattle.cm_deps.proofs.edges.add_dependent.Goals as goal

pub loop-y-init : goal.loop-y-init
loop-y-init c = adding_none c.args.x c.args.before.now.items

pub index_mut-requires : goal.index_mut-requires
index_mut-requires c =
    let inside : get_or c.args.nodes.now c.loop-y.y-index 0 < length c.args.before.now.items = c.requires (get_or c.args.nodes.now c.loop-y.y-index 0) (holds_at c.args.nodes.now c.loop-y.y-index c.loop-y-test.true) in
    omega (arith, c.loop-y.invariant.size)

pub loop-y-preserved : goal.loop-y-preserved
loop-y-preserved c =
    let inside : get_or c.args.nodes.now c.loop-y.y-index 0 < length c.args.before.now.items = c.requires (get_or c.args.nodes.now c.loop-y.y-index 0) (holds_at c.args.nodes.now c.loop-y.y-index c.loop-y-test.true) in
    let there : get_or c.args.nodes.now c.loop-y.y-index 0 < length c.loop-y.before.items = omega (arith, c.loop-y.invariant.size) in
    let put : c.push.new.self ≡ row c.loop-y.before.items (get_or c.args.nodes.now c.loop-y.y-index 0) ++ c.args.x ∷ [] = c.in_ok-push.ensures.ok ∙ ap (λ l. l ++ c.args.x ∷ []) (c.index_mut.ensures.value ∙ sym (get_or_default c.loop-y.before.items (get_or c.args.nodes.now c.loop-y.y-index 0) [] c.index_mut.result.now there)) in
    subst (λ l. IsAdding c.args.x (take (c.loop-y.y-index + 1) c.args.nodes.now) c.args.before.now.items (set c.loop-y.before.items (get_or c.args.nodes.now c.loop-y.y-index 0) l)) (sym put)
    (adding_more c.args.x c.args.nodes.now c.loop-y.y-index c.args.before.now.items c.loop-y.before.items c.loop-y-test.true c.loop-y.invariant there)

pub returns : goal.returns
returns c = record {
  size = c.loop-y.invariant.size;
  added = λ y held. c.loop-y.invariant.added y (ap (λ l. holds l y) (take_all c.loop-y.y-index c.args.nodes.now c.loop-y-test.false) ∙ held);
  kept = c.loop-y.invariant.kept;
  only = c.loop-y.invariant.only;
}
