use Rattle.cm_steps.proofs.lemmas.read.Leading.{names_within}
use Rattle.cm_steps.proofs.replies.finding.missing.Goals as goal

pub not_found-requires : goal.not_found-requires
not_found-requires c = names_within c.args.table.now.rows c.args.parts.now c.args.count c.requires c.if-count-lt4294967295.true
