use Rattle.cm_steps.proofs.lemmas.read.Leading.{unresolved_reply}
use Rattle.cm_steps.proofs.replies.finding.found.Goals as goal

pub returns-in-Unresolved : goal.returns-in-Unresolved
returns-in-Unresolved c =
    unresolved_reply c.args.table.now.rows c.args.moniker.now.parts c.in-Unresolved.inc c.unresolved.result c.in-Unresolved.ensures c.unresolved.ensures
