use Rattle.cm_order.proofs.lemmas.levels.Lists.{AreListed, listing_first, listing_more, listing_ends}
use Rattle.cm_order.proofs.dependents.put_sources.Goals as goal

pub loop-source-init : goal.loop-source-init
loop-source-init c = listing_first c.args.client c.args.list.now c.args.edges.now.clients

pub loop-source-preserved : goal.loop-source-preserved
loop-source-preserved c =
    listing_more c.args.client c.args.list.now c.loop-source.source-index c.args.edges.now.clients c.loop-source.edges.clients c.put_client.new.edges.clients c.loop-source-test.true c.loop-source.invariant c.in_ok-put_client.ensures.kept c.in_ok-put_client.ensures.here c.in_ok-put_client.ensures.real

pub returns : goal.returns
returns c =
    let done : AreListed c.args.client c.args.list.now c.args.edges.now.clients c.loop-source.edges.clients = listing_ends c.args.client c.args.list.now c.loop-source.source-index c.args.edges.now.clients c.loop-source.edges.clients c.loop-source-test.false c.loop-source.invariant in
    record { all = done.all; kept = done.kept; real = done.real }
