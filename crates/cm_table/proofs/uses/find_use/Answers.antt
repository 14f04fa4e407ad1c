use Rattle.std.proofs.Common.{◌∙◌}
use Rattle.cm_table.proofs.lemmas.SeekingUses.{used_behind, used_other, used_there}
use Rattle.cm_table.proofs.uses.find_use.Goals as goal

pub returns-in_err-place : goal.returns-in_err-place
returns-in_err-place c =
    c.from_residual.ensures
    ∙ used_behind c.args.uses.now c.args.places.now c.requires c.args.path.now c.count_before-count.result c.count_before-count.ensures c.in_err-place.ensures

pub returns-then-stands_at : goal.returns-then-stands_at
returns-then-stands_at c =
    used_there c.args.uses.now c.args.places.now c.requires c.args.path.now c.count_before-count.result c.count_before-count.ensures c.in_ok-place.place c.in_ok-place.ensures c.if-stands_at.ensures

pub returns : goal.returns
returns c =
    used_other c.args.uses.now c.args.places.now c.requires c.args.path.now c.count_before-count.result c.count_before-count.ensures c.in_ok-place.place c.in_ok-place.ensures c.if-stands_at.ensures
