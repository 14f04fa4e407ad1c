use Rattle.cm_steps.proofs.lemmas.expiries.Removing.{is_lost}
use Rattle.cm_steps.proofs.replies.purging.LostReportable.told.Goals as goal

pub returns : goal.returns
returns c = λ r lives.
    is_lost c.args.table.now.rows c.args.inc c.in_ok-moniker.moniker r c.in_ok-moniker.ensures lives
