use Rattle.std.proofs.Common.{◌∙◌}
use Rattle.cm_table.proofs.lemmas.Seeking.{found_behind, found_other, found_there}
use Rattle.cm_table.proofs.offers.find_offer.Goals as goal

pub returns-in_err-place : goal.returns-in_err-place
returns-in_err-place c =
    c.from_residual.ensures
    ∙ found_behind c.args.offers.now c.args.places.now c.requires c.args.child.now c.args.kind c.args.name.now c.target.result.now c.target.ensures c.count_before-count.result c.count_before-count.ensures c.in_err-place.ensures

pub returns-then-stands_at : goal.returns-then-stands_at
returns-then-stands_at c =
    found_there c.args.offers.now c.args.places.now c.requires c.args.child.now c.args.kind c.args.name.now c.target.result.now c.target.ensures c.count_before-count.result c.count_before-count.ensures c.in_ok-place.place c.in_ok-place.ensures c.if-stands_at.ensures

pub returns : goal.returns
returns c =
    found_other c.args.offers.now c.args.places.now c.requires c.args.child.now c.args.kind c.args.name.now c.target.result.now c.target.ensures c.count_before-count.result c.count_before-count.ensures c.in_ok-place.place c.in_ok-place.ensures c.if-stands_at.ensures
