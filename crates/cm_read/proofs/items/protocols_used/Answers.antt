use Rattle.cm_plain.specs.JsonTree.{view}
use Rattle.cm_read.specs.Words.{dependency_at, availability_at, use_source_at}
use Rattle.cm_read.specs.Items.{protocol_path_at, protocols_used_at}
use Rattle.cm_read.proofs.lemmas.ByTwos.{fails_then, reads_then, four}
use Rattle.cm_read.proofs.items.protocols_used.Goals as goal

pub returns-in_err-read : goal.returns-in_err-read
unfolding protocols_used_at
returns-in_err-read c =
    let at = c.args.at in
    let names = c.args.names.now in
    let d = view c.args.item.now in
    fails_then c.in_err-read.field-0.0 c.from_residual.result _ _
    (protocols_used_at at names d) c.from_residual.ensures.1
    (four (use_source_at at d) (protocol_path_at at names d) (dependency_at at d) (availability_at at d) _)
    (c.in_err-read.ensures _ _ (c.both.ensures _ _ c.use_source_of.ensures c.protocol_path_of.ensures)
    (c.both-2.ensures _ _ c.dependency_of.ensures c.availability_of.ensures))

pub returns : goal.returns
unfolding protocols_used_at
returns c =
    let at = c.args.at in
    let names = c.args.names.now in
    let d = view c.args.item.now in
    rw c.in_ok-uses_from.ensures
    (reads_then c.in_ok-read.read _ _ (protocols_used_at at names d)
    (four (use_source_at at d) (protocol_path_at at names d) (dependency_at at d) (availability_at at d) _)
    (c.in_ok-read.ensures _ _ (c.both.ensures _ _ c.use_source_of.ensures c.protocol_path_of.ensures)
    (c.both-2.ensures _ _ c.dependency_of.ensures c.availability_of.ensures)))
