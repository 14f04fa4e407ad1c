use Rattle.cm_steps.proofs.lemmas.read.Reporting.{row_made}
use Rattle.cm_steps.proofs.replies.surveying.survey_row.Goals as goal

pub returns : goal.returns
returns g c = λ r lives.
    row_made (g.V.View.rows c.args.view.now) c.args.inc c.in_ok-moniker.moniker c.is_resolved.result c.is_on.result c.is_shut.result c.in_ok-paths.paths r c.in_ok-moniker.ensures c.is_resolved.ensures c.is_on.ensures c.is_shut.ensures c.in_ok-paths.ensures lives
