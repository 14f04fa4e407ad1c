use Rattle.std.proofs.Common.{codes}
use Rattle.cm_plain.specs.JsonTree.{view}
use Rattle.cm_read.specs.Fields.{name_at, url_at}
use Rattle.cm_read.specs.Words.{startup_at, environment_at}
use Rattle.cm_read.specs.Items.{child_row_at}
use Rattle.cm_read.proofs.lemmas.ByTwos.{fails_then, gives_then, four}
use Rattle.cm_read.proofs.items.child_row.Goals as goal

pub returns-in_err-read : goal.returns-in_err-read
unfolding child_row_at
returns-in_err-read c =
    let at = c.args.at in
    let d = view c.args.item.now in
    fails_then c.in_err-read.field-0.0 c.from_residual.result _ _
    (child_row_at at d) c.from_residual.ensures.1
    (four (name_at at (codes "name") d) (url_at at (codes "url") d) (startup_at at d) (environment_at at d) _)
    (c.in_err-read.ensures _ _ (c.both.ensures _ _ c.name_of.ensures c.url_of.ensures)
    (c.both-2.ensures _ _ c.startup_of.ensures c.environment_of.ensures))

pub returns : goal.returns
unfolding child_row_at
returns c =
    let at = c.args.at in
    let d = view c.args.item.now in
    gives_then c.in_ok-read.read _ _ (child_row_at at d) c.one_row.result
    (four (name_at at (codes "name") d) (url_at at (codes "url") d) (startup_at at d) (environment_at at d) _)
    (c.in_ok-read.ensures _ _ (c.both.ensures _ _ c.name_of.ensures c.url_of.ensures)
    (c.both-2.ensures _ _ c.startup_of.ensures c.environment_of.ensures))
    c.one_row.ensures
