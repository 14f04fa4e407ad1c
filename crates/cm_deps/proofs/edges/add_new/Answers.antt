use Rattle.std.proofs.Common.{◌<◌, length, refl, sym, ◌∙◌, ap, get_or, arith}
use Rattle.std.proofs.lemmas.List.{take_all}
use Rattle.cm_deps.specs.Edges.{holds}
use Rattle.cm_deps.proofs.lemmas.listed.Listing.{holds_at}
use Rattle.cm_deps.proofs.lemmas.loops.Searching.{added_none, added_more}
use Rattle.cm_deps.proofs.edges.add_new.Goals as goal

pub loop-x-init : goal.loop-x-init
loop-x-init c = record { size = refl; listed = c.requires.seen; step = added_none c.args.found.now.items }

pub add_if_new-requires-clause-inside : goal.add_if_new-requires-clause-inside
add_if_new-requires-clause-inside c =
    let inside : get_or c.args.nodes.now c.loop-x.x-index 0 < length c.args.seen.now.items = c.requires.inside (get_or c.args.nodes.now c.loop-x.x-index 0) (holds_at c.args.nodes.now c.loop-x.x-index c.loop-x-test.true) in
    omega (arith, c.loop-x.invariant.size)

pub add_if_new-requires-clause-seen : goal.add_if_new-requires-clause-seen
add_if_new-requires-clause-seen c = c.loop-x.invariant.listed

pub loop-x-preserved : goal.loop-x-preserved
loop-x-preserved c = record {
  size = c.in_ok-add_if_new.ensures.size ∙ c.loop-x.invariant.size;
  listed = c.in_ok-add_if_new.ensures.seen;
  step = added_more c.args.nodes.now c.loop-x.x-index c.args.found.now.items c.loop-x.found.items c.add_if_new.new.found.items c.loop-x-test.true c.loop-x.invariant.step c.in_ok-add_if_new.ensures.added c.in_ok-add_if_new.ensures.only c.in_ok-add_if_new.ensures.longer;
}

pub returns : goal.returns
returns c = record {
  size = c.loop-x.invariant.size;
  seen = c.loop-x.invariant.listed;
  added = λ y held. c.loop-x.invariant.step.added y (ap (λ l. holds l y) (take_all c.loop-x.x-index c.args.nodes.now c.loop-x-test.false) ∙ held);
  only = λ y held out. ap (λ l. holds l y) (sym (take_all c.loop-x.x-index c.args.nodes.now c.loop-x-test.false)) ∙ c.loop-x.invariant.step.only y held out;
  longer = c.loop-x.invariant.step.longer;
}
