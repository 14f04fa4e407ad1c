use Rattle.std.proofs.Common.{◌∙◌}
use Rattle.cm_walk.proofs.lemmas.routes.Offers.{offer_by_index}
use Rattle.cm_walk.proofs.find.offer.Goals as goal

pub returns-then-index-lt4294967295 : goal.returns-then-index-lt4294967295
returns-then-index-lt4294967295 c = λ told.
    c.get.ensures ∙ offer_by_index c.args.decl.now c.args.child.now c.args.kind c.args.name.now c.args.index told c.if-index-lt4294967295.true
