use Rattle.cm_plain.specs.JsonTree.{view}
use Rattle.cm_read.specs.Words.{static_from_at}
use Rattle.cm_read.specs.Items.{as_at}
use Rattle.cm_read.specs.Environments.{registered_at}
use Rattle.cm_read.proofs.lemmas.ByTwos.{fails_then, reads_then, two}
use Rattle.cm_read.proofs.environments.registered.Goals as goal

pub returns-in_err-read : goal.returns-in_err-read
unfolding registered_at
returns-in_err-read c =
    let at = c.args.at in
    let names = c.args.names.now in
    let d = view c.args.item.now in
    fails_then c.in_err-read.field-0.0 c.from_residual.result _ _
    (registered_at at names d) c.from_residual.ensures.1
    (two (static_from_at at d) (as_at at names d) _)
    (c.in_err-read.ensures _ _ c.static_from_of.ensures c.as_of.ensures)

pub returns : goal.returns
unfolding registered_at
returns c =
    let at = c.args.at in
    let names = c.args.names.now in
    let d = view c.args.item.now in
    rw c.in_ok-registrations_from.ensures
    (reads_then c.in_ok-read.read _ _ (registered_at at names d)
    (two (static_from_at at d) (as_at at names d) _)
    (c.in_ok-read.ensures _ _ c.static_from_of.ensures c.as_of.ensures))
