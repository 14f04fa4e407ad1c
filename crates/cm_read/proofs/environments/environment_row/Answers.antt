use Rattle.std.proofs.Common.{codes}
use Rattle.cm_plain.specs.JsonTree.{view}
use Rattle.cm_read.specs.declared.rows.Registry.TheVariants.{Runners, Debug}
use Rattle.cm_read.specs.Fields.{name_at}
use Rattle.cm_read.specs.Words.{extends_at}
use Rattle.cm_read.specs.Environments.{registry_at, environment_row_at}
use Rattle.cm_read.proofs.lemmas.ByTwos.{fails_then, gives_then, four}
use Rattle.cm_read.proofs.environments.environment_row.Goals as goal

pub returns-in_err-read : goal.returns-in_err-read
unfolding environment_row_at
returns-in_err-read c =
    let at = c.args.at in
    let d = view c.args.item.now in
    fails_then c.in_err-read.field-0.0 c.from_residual.result _ _
    (environment_row_at at d) c.from_residual.ensures.1
    (four (name_at at (codes "name") d) (extends_at at d) (registry_at Runners at d)
    (registry_at Debug at d) _)
    (c.in_err-read.ensures _ _ (c.both.ensures _ _ c.name_of.ensures c.extends_of.ensures)
    (c.both-2.ensures _ _ c.registry_of.ensures c.registry_of-2.ensures))

pub returns : goal.returns
unfolding environment_row_at
returns c =
    let at = c.args.at in
    let d = view c.args.item.now in
    gives_then c.in_ok-read.read _ _ (environment_row_at at d) c.one_row.result
    (four (name_at at (codes "name") d) (extends_at at d) (registry_at Runners at d)
    (registry_at Debug at d) _)
    (c.in_ok-read.ensures _ _ (c.both.ensures _ _ c.name_of.ensures c.extends_of.ensures)
    (c.both-2.ensures _ _ c.registry_of.ensures c.registry_of-2.ensures))
    c.one_row.ensures
