use Rattle.cm_storage.proofs.lemmas.Laid.{index_more}
use Rattle.cm_storage.proofs.firsts.index_of.Goals as goal

pub loop-offer-preserved : goal.loop-offer-preserved
loop-offer-preserved c =
    index_more c.args.offers.now c.loop-offer.offer-index c.offer-item.result c.loop-offer.index c.put.new.index c.loop-offer-test.true c.offer-item.is c.loop-offer.invariant c.in_ok-put.ensures
