use Rattle.std.proofs.Common.{◌∙◌}
use Rattle.cm_table.proofs.lemmas.SeekingNamed.{named_behind, named_other, named_there}
use Rattle.cm_table.proofs.named.find_named.Goals as goal

pub returns-in_err-place : goal.returns-in_err-place
returns-in_err-place g c =
    c.from_residual.ensures
    ∙ named_behind g.T.NamedRow.name_in g.T.NamedRow.kind_in c.args.items.now c.args.places.now c.requires c.args.kind c.args.name.now c.count_before-count.result c.count_before-count.ensures c.in_err-place.ensures

pub returns-then-stands_at : goal.returns-then-stands_at
returns-then-stands_at g c =
    named_there g.T.NamedRow.name_in g.T.NamedRow.kind_in c.args.items.now c.args.places.now c.requires c.args.kind c.args.name.now c.count_before-count.result c.count_before-count.ensures c.in_ok-place.place c.in_ok-place.ensures c.if-stands_at.ensures

pub returns : goal.returns
returns g c =
    named_other g.T.NamedRow.name_in g.T.NamedRow.kind_in c.args.items.now c.args.places.now c.requires c.args.kind c.args.name.now c.count_before-count.result c.count_before-count.ensures c.in_ok-place.place c.in_ok-place.ensures c.if-stands_at.ensures
