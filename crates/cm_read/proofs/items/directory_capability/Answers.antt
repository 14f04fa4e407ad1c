use Rattle.std.proofs.Common.{codes}
use Rattle.cm_plain.specs.JsonTree.{view}
use Rattle.cm_read.specs.Fields.{path_at, rights_at}
use Rattle.cm_read.specs.Items.{directory_name_at, directory_capability_at}
use Rattle.cm_read.proofs.lemmas.ByTwos.{fails_then, gives_then, three}
use Rattle.cm_read.proofs.items.directory_capability.Goals as goal

pub returns-in_err-read : goal.returns-in_err-read
unfolding directory_capability_at
returns-in_err-read c =
    let at = c.args.at in
    let d = view c.args.item.now in
    fails_then c.in_err-read.field-0.0 c.from_residual.result _ _
    (directory_capability_at at d) c.from_residual.ensures.1
    (three (directory_name_at at d) (path_at at (codes "path") d) (rights_at at (codes "rights") d) _)
    (c.in_err-read.ensures _ _
    (c.both.ensures _ _ c.directory_name_of.ensures c.path_of.ensures) c.rights_of.ensures)

pub returns : goal.returns
unfolding directory_capability_at
returns c =
    let at = c.args.at in
    let d = view c.args.item.now in
    gives_then c.in_ok-read.read _ _ (directory_capability_at at d) c.one_row.result
    (three (directory_name_at at d) (path_at at (codes "path") d) (rights_at at (codes "rights") d) _)
    (c.in_ok-read.ensures _ _
    (c.both.ensures _ _ c.directory_name_of.ensures c.path_of.ensures) c.rights_of.ensures)
    c.one_row.ensures
