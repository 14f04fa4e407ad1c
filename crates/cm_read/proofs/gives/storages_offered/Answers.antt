use Rattle.cm_plain.specs.JsonTree.{view}
use Rattle.cm_read.specs.Words.{given_availability_at, storage_from_at}
use Rattle.cm_read.specs.Items.{as_at, targets_at, storages_offered_at}
use Rattle.cm_read.proofs.lemmas.ByTwos.{fails_then, reads_then, four}
use Rattle.cm_read.proofs.gives.storages_offered.Goals as goal

pub returns-in_err-read : goal.returns-in_err-read
unfolding storages_offered_at
returns-in_err-read c =
    let at = c.args.at in
    let names = c.args.names.now in
    let d = view c.args.item.now in
    fails_then c.in_err-read.field-0.0 c.from_residual.result _ _
    (storages_offered_at at names d) c.from_residual.ensures.1
    (four (storage_from_at at d) (targets_at at d) (as_at at names d) (given_availability_at at d) _)
    (c.in_err-read.ensures _ _ (c.both.ensures _ _ c.storage_from_of.ensures c.targets_of.ensures)
    (c.both-2.ensures _ _ c.as_of.ensures c.given_availability_of.ensures))

pub returns : goal.returns
unfolding storages_offered_at
returns c =
    let at = c.args.at in
    let names = c.args.names.now in
    let d = view c.args.item.now in
    rw c.in_ok-storage_offers_from.ensures
    (reads_then c.in_ok-read.read _ _ (storages_offered_at at names d)
    (four (storage_from_at at d) (targets_at at d) (as_at at names d) (given_availability_at at d) _)
    (c.in_ok-read.ensures _ _ (c.both.ensures _ _ c.storage_from_of.ensures c.targets_of.ensures)
    (c.both-2.ensures _ _ c.as_of.ensures c.given_availability_of.ensures)))
