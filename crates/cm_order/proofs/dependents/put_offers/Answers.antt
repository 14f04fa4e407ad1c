use Rattle.cm_order.proofs.lemmas.levels.Real.{offers_first, offers_more, offers_end}
use Rattle.cm_order.proofs.lemmas.names.Sources.{offering_first, offering_more, offering_ends}
use Rattle.cm_order.proofs.dependents.put_offers.Goals as goal

pub loop-offer-init : goal.loop-offer-init
loop-offer-init g c = (
  offering_first (g.V.View.rows c.args.view.now) c.args.parent c.args.offers.now c.args.offered.now,
  offers_first (g.V.View.rows c.args.view.now) c.args.parent c.args.offers.now c.args.offered.now,
)

pub loop-offer-preserved : goal.loop-offer-preserved
loop-offer-preserved g c = (
  offering_more (g.V.View.rows c.args.view.now) c.args.parent c.args.offers.now c.loop-offer.offer-index c.offer-item.result c.loop-offer.offered c.put_offer.new.offered c.loop-offer-test.true c.offer-item.is c.loop-offer.invariant.0 c.in_ok-put_offer.ensures.kept c.in_ok-put_offer.ensures.here,
  offers_more (g.V.View.rows c.args.view.now) c.args.parent c.args.offers.now c.loop-offer.offer-index c.offer-item.result c.args.offered.now c.loop-offer.offered c.put_offer.new.offered c.loop-offer-test.true c.offer-item.is c.loop-offer.invariant.1 c.in_ok-put_offer.ensures.real,
)

pub returns : goal.returns
returns g c = record {
  all = offering_ends (g.V.View.rows c.args.view.now) c.args.parent c.args.offers.now c.loop-offer.offer-index c.loop-offer.offered c.loop-offer-test.false c.loop-offer.invariant.0;
  real = offers_end (g.V.View.rows c.args.view.now) c.args.parent c.args.offers.now c.loop-offer.offer-index c.args.offered.now c.loop-offer.offered c.loop-offer-test.false c.loop-offer.invariant.1;
}
