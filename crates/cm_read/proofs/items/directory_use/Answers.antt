use Rattle.std.proofs.Common.{codes}
use Rattle.cm_plain.specs.JsonTree.{view}
use Rattle.cm_read.specs.Fields.{path_at, rights_at, subdir_at}
use Rattle.cm_read.specs.Words.{dependency_at, availability_at, use_from_at}
use Rattle.cm_read.specs.Items.{directory_name_at, directory_use_at}
use Rattle.cm_read.proofs.lemmas.ByTwos.{fails_then, gives_then, seven}
use Rattle.cm_read.proofs.items.directory_use.Goals as goal

pub returns-in_err-read : goal.returns-in_err-read
unfolding directory_use_at
returns-in_err-read c =
    let at = c.args.at in
    let d = view c.args.item.now in
    fails_then c.in_err-read.field-0.0 c.from_residual.result _ _
    (directory_use_at at d) c.from_residual.ensures.1
    (seven (directory_name_at at d) (use_from_at at d) (path_at at (codes "path") d)
    (rights_at at (codes "rights") d) (subdir_at at (codes "subdir") d) (dependency_at at d)
    (availability_at at d) _)
    (c.in_err-read.ensures _ _ (c.both-3.ensures _ _
    (c.both.ensures _ _ c.directory_name_of.ensures c.use_from_of.ensures)
    (c.both-2.ensures _ _ c.path_of.ensures c.rights_of.ensures)) (c.both-5.ensures _ _ c.subdir_of.ensures
    (c.both-4.ensures _ _ c.dependency_of.ensures c.availability_of.ensures)))

pub returns : goal.returns
unfolding directory_use_at
returns c =
    let at = c.args.at in
    let d = view c.args.item.now in
    gives_then c.in_ok-read.read _ _ (directory_use_at at d) c.one_row.result
    (seven (directory_name_at at d) (use_from_at at d) (path_at at (codes "path") d)
    (rights_at at (codes "rights") d) (subdir_at at (codes "subdir") d) (dependency_at at d)
    (availability_at at d) _)
    (c.in_ok-read.ensures _ _ (c.both-3.ensures _ _
    (c.both.ensures _ _ c.directory_name_of.ensures c.use_from_of.ensures)
    (c.both-2.ensures _ _ c.path_of.ensures c.rights_of.ensures)) (c.both-5.ensures _ _ c.subdir_of.ensures
    (c.both-4.ensures _ _ c.dependency_of.ensures c.availability_of.ensures)))
    c.one_row.ensures
