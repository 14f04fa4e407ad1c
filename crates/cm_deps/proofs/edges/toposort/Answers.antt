use Rattle.std.proofs.Common.{◌≡◌, ◌<◌, [], length, set, true, false, refl, sym, ◌∙◌, ap, subst, get_or, arith}
use Rattle.std.specs.Prelude.{replicate}
use Rattle.std.proofs.lemmas.List.{get_or_default}
use Rattle.cm_deps.specs.Edges.{holds, row, IsSettled, IsListing}
use Rattle.cm_deps.proofs.lemmas.listed.Toposorting.{IsToposorting, listing_none, toposorting_none, listing_done, toposorting_next, toposorted, listed_inside, settled_more}
use Rattle.cm_deps.proofs.edges.toposort.Goals as goal

pub loop-x-init : goal.loop-x-init
loop-x-init c = record {
  listing = subst (λ o. IsListing c.args.after.now o c.in_ok-queued.queued.items c.in_ok-done.done.items) (sym c.new-order.ensures.items)
      (subst (λ q. IsListing c.args.after.now [] q c.in_ok-done.done.items) (sym c.in_ok-queued.ensures)
      (subst (λ d. IsListing c.args.after.now [] (replicate (length c.args.after.now) false) d) (sym c.in_ok-done.ensures)
      (listing_none c.args.after.now (length c.args.after.now) refl)));
  settled = λ y low. absurd (omega arith);
}

pub list_if_ready-requires-clause-listing : goal.list_if_ready-requires-clause-listing
list_if_ready-requires-clause-listing c =
    subst (λ d. IsListing c.args.after.now c.loop-x.order.items c.loop-x.queued.items d) (sym c.as_slice.ensures.value) c.loop-x.invariant.listing

pub loop-x-preserved : goal.loop-x-preserved
loop-x-preserved c = record {
  listing = subst (λ d. IsListing c.args.after.now c.list_if_ready.new.order.items c.list_if_ready.new.queued.items d) c.as_slice.ensures.value c.in_ok-list_if_ready.ensures.listing;
  settled = settled_more c.args.after.now c.loop-x.order.items c.list_if_ready.new.order.items c.in_ok-done.done.items c.loop-x.x c.loop-x.invariant.settled c.in_ok-list_if_ready.ensures.longer
      (subst (λ d. IsSettled c.args.after.now c.list_if_ready.new.order.items d c.loop-x.x) c.as_slice.ensures.value c.in_ok-list_if_ready.ensures.settled);
}

pub loop-head-init : goal.loop-head-init
loop-head-init c =
    subst (λ d. IsToposorting c.args.after.now c.loop-x.order.items c.loop-x.queued.items d 0) (sym c.in_ok-done.ensures)
    (toposorting_none c.args.after.now c.loop-x.order.items c.loop-x.queued.items (length c.args.after.now) refl
    (subst (λ d. IsListing c.args.after.now c.loop-x.order.items c.loop-x.queued.items d) c.in_ok-done.ensures c.loop-x.invariant.listing)
    (λ x low. subst (λ d. IsSettled c.args.after.now c.loop-x.order.items d x) c.in_ok-done.ensures (c.loop-x.invariant.settled x (omega arith))))

pub index-node-requires : goal.index-node-requires
index-node-requires c = omega (arith, c.loop-head.invariant.within)

pub index_mut-requires : goal.index_mut-requires
index_mut-requires c =
    let within : c.loop-head.head < length c.loop-head.order.items = omega (arith, c.loop-head.invariant.within) in
    let inside : get_or c.loop-head.order.items c.loop-head.head 0 < length c.args.after.now = listed_inside c.args.after.now c.loop-head.order.items c.loop-head.head c.loop-head.invariant.listing.grown within in
    omega (arith, get_or_default c.loop-head.order.items c.loop-head.head 0 c.index-node.result.now within, c.index-node.ensures, c.loop-head.invariant.done_size)

pub index-requires : goal.index-requires
index-requires c =
    let within : c.loop-head.head < length c.loop-head.order.items = omega (arith, c.loop-head.invariant.within) in
    let inside : get_or c.loop-head.order.items c.loop-head.head 0 < length c.args.after.now = listed_inside c.args.after.now c.loop-head.order.items c.loop-head.head c.loop-head.invariant.listing.grown within in
    omega (arith, get_or_default c.loop-head.order.items c.loop-head.head 0 c.index-node.result.now within, c.index-node.ensures, c.in_ok-before.ensures.size)

pub release-requires-clause-inside : goal.release-requires-clause-inside
release-requires-clause-inside c =
    let within : c.loop-head.head < length c.loop-head.order.items = omega (arith, c.loop-head.invariant.within) in
    let node : get_or c.loop-head.order.items c.loop-head.head 0 ≡ c.index-node.result.now = get_or_default c.loop-head.order.items c.loop-head.head 0 c.index-node.result.now within ∙ sym c.index-node.ensures in
    let inside : get_or c.loop-head.order.items c.loop-head.head 0 < length c.args.after.now = listed_inside c.args.after.now c.loop-head.order.items c.loop-head.head c.loop-head.invariant.listing.grown within in
    let there : c.index-node.result.now < length c.in_ok-before.before.items = omega (arith, node, c.in_ok-before.ensures.size) in
    let freed : row c.in_ok-before.before.items c.index-node.result.now ≡ c.as_slice-freed.result.now = get_or_default c.in_ok-before.before.items c.index-node.result.now [] c.index.result.now there ∙ sym c.index.ensures ∙ sym c.as_slice-freed.ensures in
    λ y held. c.in_ok-before.ensures.below c.index-node.result.now y (ap (λ l. holds l y) freed ∙ held)

pub release-requires-clause-listing : goal.release-requires-clause-listing
release-requires-clause-listing c =
    let within : c.loop-head.head < length c.loop-head.order.items = omega (arith, c.loop-head.invariant.within) in
    let node : get_or c.loop-head.order.items c.loop-head.head 0 ≡ c.index-node.result.now = get_or_default c.loop-head.order.items c.loop-head.head 0 c.index-node.result.now within ∙ sym c.index-node.ensures in
    subst (λ d. IsListing c.args.after.now c.loop-head.order.items c.loop-head.queued.items d) (sym c.as_slice-in-loop-head.ensures.value)
    (subst (λ z. IsListing c.args.after.now c.loop-head.order.items c.loop-head.queued.items (set c.loop-head.done.items z true)) node
    (listing_done c.args.after.now c.loop-head.order.items c.loop-head.queued.items c.loop-head.done.items c.loop-head.head c.loop-head.invariant within))

pub loop-head-preserved : goal.loop-head-preserved
loop-head-preserved c =
    let within : c.loop-head.head < length c.loop-head.order.items = omega (arith, c.loop-head.invariant.within) in
    let node : get_or c.loop-head.order.items c.loop-head.head 0 ≡ c.index-node.result.now = get_or_default c.loop-head.order.items c.loop-head.head 0 c.index-node.result.now within ∙ sym c.index-node.ensures in
    let inside : get_or c.loop-head.order.items c.loop-head.head 0 < length c.args.after.now = listed_inside c.args.after.now c.loop-head.order.items c.loop-head.head c.loop-head.invariant.listing.grown within in
    let there : c.index-node.result.now < length c.in_ok-before.before.items = omega (arith, node, c.in_ok-before.ensures.size) in
    let freed : row c.in_ok-before.before.items c.index-node.result.now ≡ c.as_slice-freed.result.now = get_or_default c.in_ok-before.before.items c.index-node.result.now [] c.index.result.now there ∙ sym c.index.ensures ∙ sym c.as_slice-freed.ensures in
    toposorting_next c.args.after.now c.in_ok-before.before.items c.loop-head.order.items c.release.new.order.items c.loop-head.queued.items c.release.new.queued.items c.loop-head.done.items c.loop-head.head c.index-node.result.now c.loop-head.invariant c.in_ok-before.ensures.covers within node
    (subst (λ d. IsListing c.args.after.now c.release.new.order.items c.release.new.queued.items d) c.as_slice-in-loop-head.ensures.value c.in_ok-release.ensures.listing)
    (λ y held. subst (λ d. IsSettled c.args.after.now c.release.new.order.items d y) c.as_slice-in-loop-head.ensures.value (c.in_ok-release.ensures.settled y (ap (λ l. holds l y) (sym freed) ∙ held)))
    c.in_ok-release.ensures.longer

pub returns-then-head-len : goal.returns-then-head-len
returns-then-head-len c =
    toposorted c.args.after.now c.loop-head.order.items c.loop-head.queued.items c.loop-head.done.items c.loop-head.head c.loop-head.invariant (omega arith)

pub returns : goal.returns
returns c =
    toposorted c.args.after.now c.loop-head.order.items c.loop-head.queued.items c.loop-head.done.items c.loop-head.head c.loop-head.invariant
    (omega (arith, c.loop-head.invariant.listing.counted, c.loop-head.invariant.within))
