use Rattle.std.proofs.Common.{codes}
use Rattle.cm_plain.specs.JsonTree.{view}
use Rattle.cm_read.specs.Fields.{name_at}
use Rattle.cm_read.specs.Words.{durability_at, allowed_offers_at, environment_at}
use Rattle.cm_read.specs.Items.{collection_row_at}
use Rattle.cm_read.proofs.lemmas.ByTwos.{fails_then, gives_then, four}
use Rattle.cm_read.proofs.items.collection_row.Goals as goal

pub returns-in_err-read : goal.returns-in_err-read
unfolding collection_row_at
returns-in_err-read c =
    let at = c.args.at in
    let d = view c.args.item.now in
    fails_then c.in_err-read.field-0.0 c.from_residual.result _ _
    (collection_row_at at d) c.from_residual.ensures.1
    (four (name_at at (codes "name") d) (durability_at at d) (allowed_offers_at at d) (environment_at at d) _)
    (c.in_err-read.ensures _ _ (c.both.ensures _ _ c.name_of.ensures c.durability_of.ensures)
    (c.both-2.ensures _ _ c.allowed_offers_of.ensures c.environment_of.ensures))

pub returns : goal.returns
unfolding collection_row_at
returns c =
    let at = c.args.at in
    let d = view c.args.item.now in
    gives_then c.in_ok-read.read _ _ (collection_row_at at d) c.one_row.result
    (four (name_at at (codes "name") d) (durability_at at d) (allowed_offers_at at d) (environment_at at d) _)
    (c.in_ok-read.ensures _ _ (c.both.ensures _ _ c.name_of.ensures c.durability_of.ensures)
    (c.both-2.ensures _ _ c.allowed_offers_of.ensures c.environment_of.ensures))
    c.one_row.ensures
