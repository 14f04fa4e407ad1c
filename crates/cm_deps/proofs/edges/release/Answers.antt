use Rattle.std.proofs.Common.{true≢false, sym, ◌∙◌, ap, get_or}
use Rattle.std.proofs.lemmas.List.{take_all}
use Rattle.cm_deps.specs.Edges.{holds, IsSettled}
use Rattle.cm_deps.proofs.lemmas.listed.Listing.{holds_at, prefix_more, settled_longer, extends_on, same_extends}
use Rattle.cm_deps.proofs.edges.release.Goals as goal

pub loop-x-init : goal.loop-x-init
loop-x-init c = record {
  listing = c.requires.listing;
  settled = λ y none. absurd (true≢false (sym none));
  longer = same_extends c.args.order.now.items;
}

pub list_if_ready-requires-clause-inside : goal.list_if_ready-requires-clause-inside
list_if_ready-requires-clause-inside c =
    c.requires.inside (get_or c.args.nodes.now c.loop-x.x-index 0) (holds_at c.args.nodes.now c.loop-x.x-index c.loop-x-test.true)

pub list_if_ready-requires-clause-listing : goal.list_if_ready-requires-clause-listing
list_if_ready-requires-clause-listing c = c.loop-x.invariant.listing

pub loop-x-preserved : goal.loop-x-preserved
loop-x-preserved c = record {
  listing = c.in_ok-list_if_ready.ensures.listing;
  settled = prefix_more (IsSettled c.args.after.now c.list_if_ready.new.order.items c.args.done.now) c.args.nodes.now c.loop-x.x-index c.loop-x-test.true
      (λ y held. settled_longer c.args.after.now c.loop-x.order.items c.list_if_ready.new.order.items c.args.done.now y c.in_ok-list_if_ready.ensures.longer (c.loop-x.invariant.settled y held))
      c.in_ok-list_if_ready.ensures.settled;
  longer = extends_on c.args.order.now.items c.loop-x.order.items c.list_if_ready.new.order.items c.loop-x.invariant.longer c.in_ok-list_if_ready.ensures.longer;
}

pub returns : goal.returns
returns c = record {
  listing = c.loop-x.invariant.listing;
  settled = λ y held. c.loop-x.invariant.settled y (ap (λ l. holds l y) (take_all c.loop-x.x-index c.args.nodes.now c.loop-x-test.false) ∙ held);
  longer = c.loop-x.invariant.longer;
}
