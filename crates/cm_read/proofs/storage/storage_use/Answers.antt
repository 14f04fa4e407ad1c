use Rattle.std.proofs.Common.{codes}
use Rattle.cm_plain.specs.JsonTree.{view}
use Rattle.cm_read.specs.Fields.{path_at}
use Rattle.cm_read.specs.Words.{availability_at, storage_use_from_at}
use Rattle.cm_read.specs.Items.{storage_name_at, storage_use_at}
use Rattle.cm_read.proofs.lemmas.ByTwos.{fails_then, gives_then, four}
use Rattle.cm_read.proofs.storage.storage_use.Goals as goal

pub returns-in_err-read : goal.returns-in_err-read
unfolding storage_use_at storage_name_at
returns-in_err-read c =
    let at = c.args.at in
    let d = view c.args.item.now in
    fails_then c.in_err-read.field-0.0 c.from_residual.result _ _
    (storage_use_at at d) c.from_residual.ensures.1
    (four (storage_name_at at d) (storage_use_from_at at d) (path_at at (codes "path") d)
    (availability_at at d) _)
    (c.in_err-read.ensures _ _ (c.both.ensures _ _ c.name_of.ensures c.storage_use_from_of.ensures)
    (c.both-2.ensures _ _ c.path_of.ensures c.availability_of.ensures))

pub returns : goal.returns
unfolding storage_use_at storage_name_at
returns c =
    let at = c.args.at in
    let d = view c.args.item.now in
    gives_then c.in_ok-read.read _ _ (storage_use_at at d) c.one_row.result
    (four (storage_name_at at d) (storage_use_from_at at d) (path_at at (codes "path") d)
    (availability_at at d) _)
    (c.in_ok-read.ensures _ _ (c.both.ensures _ _ c.name_of.ensures c.storage_use_from_of.ensures)
    (c.both-2.ensures _ _ c.path_of.ensures c.availability_of.ensures))
    c.one_row.ensures
