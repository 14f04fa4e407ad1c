use Rattle.std.proofs.Common.{codes}
use Rattle.cm_plain.specs.JsonTree.{view}
use Rattle.cm_read.specs.Fields.{subdir_at}
use Rattle.cm_read.specs.Words.{given_availability_at, source_unknown_at}
use Rattle.cm_read.specs.Items.{as_at, given_rights_at}
use Rattle.cm_read.specs.Parts.{asked_at}
use Rattle.cm_read.proofs.lemmas.ByTwos.{fails_then, reads_then, six}
use Rattle.cm_read.proofs.gives.asked_of.Goals as goal

pub returns-in_err-read : goal.returns-in_err-read
unfolding asked_at
returns-in_err-read c = λ wanted given.
    let at = c.args.at in
    let names = c.args.names.now in
    let d = view c.args.item.now in
    fails_then c.in_err-read.field-0.0 c.from_residual.result _ _
    (asked_at wanted at names d) c.from_residual.ensures.1
    (six (as_at at names d) (given_rights_at at d) (subdir_at at (codes "subdir") d) wanted
    (given_availability_at at d) (source_unknown_at at d) _)
    (c.in_err-read.ensures _ _ (c.both.ensures _ _ c.as_of.ensures c.given_rights_of.ensures)
    (c.both-4.ensures _ _ (c.both-2.ensures _ _ c.subdir_of.ensures given)
    (c.both-3.ensures _ _ c.given_availability_of.ensures c.source_unknown_of.ensures)))

pub returns : goal.returns
unfolding asked_at
returns c = λ wanted given.
    let at = c.args.at in
    let names = c.args.names.now in
    let d = view c.args.item.now in
    reads_then c.in_ok-read.read _ _ (asked_at wanted at names d)
    (six (as_at at names d) (given_rights_at at d) (subdir_at at (codes "subdir") d) wanted
    (given_availability_at at d) (source_unknown_at at d) _)
    (c.in_ok-read.ensures _ _ (c.both.ensures _ _ c.as_of.ensures c.given_rights_of.ensures)
    (c.both-4.ensures _ _ (c.both-2.ensures _ _ c.subdir_of.ensures given)
    (c.both-3.ensures _ _ c.given_availability_of.ensures c.source_unknown_of.ensures)))
