use Rattle.std.proofs.Common.{codes}
use Rattle.cm_plain.specs.JsonTree.{view}
use Rattle.cm_read.specs.Fields.{subdir_at}
use Rattle.cm_read.specs.Words.{static_from_at, storage_id_at}
use Rattle.cm_read.specs.Items.{storage_name_at, backing_at, storage_at}
use Rattle.cm_read.proofs.lemmas.ByTwos.{fails_then, gives_then, five}
use Rattle.cm_read.proofs.storage.storage_capability.Goals as goal

pub returns-in_err-read : goal.returns-in_err-read
unfolding storage_at storage_name_at backing_at
returns-in_err-read c =
    let at = c.args.at in
    let d = view c.args.item.now in
    fails_then c.in_err-read.field-0.0 c.from_residual.result _ _ (storage_at at d) c.from_residual.ensures.1
    (five (storage_name_at at d) (static_from_at at d) (backing_at at d) (subdir_at at (codes "subdir") d)
    (storage_id_at at d) _)
    (c.in_err-read.ensures _ _ (c.both.ensures _ _ c.name_of.ensures c.static_from_of.ensures)
    (c.both-3.ensures _ _ c.name_of-2.ensures
    (c.both-2.ensures _ _ c.subdir_of.ensures c.storage_id_of.ensures)))

pub returns : goal.returns
unfolding storage_at storage_name_at backing_at
returns c =
    let at = c.args.at in
    let d = view c.args.item.now in
    gives_then c.in_ok-read.read _ _ (storage_at at d) c.one_row.result
    (five (storage_name_at at d) (static_from_at at d) (backing_at at d) (subdir_at at (codes "subdir") d)
    (storage_id_at at d) _)
    (c.in_ok-read.ensures _ _ (c.both.ensures _ _ c.name_of.ensures c.static_from_of.ensures)
    (c.both-3.ensures _ _ c.name_of-2.ensures
    (c.both-2.ensures _ _ c.subdir_of.ensures c.storage_id_of.ensures)))
    c.one_row.ensures
