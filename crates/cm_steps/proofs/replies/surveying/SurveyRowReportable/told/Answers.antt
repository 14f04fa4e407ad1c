use Rattle.std.proofs.Common.{sym, ◌∙◌}
use Rattle.cm_steps.proofs.lemmas.read.Reporting.{gone_unseen, here_seen}
use Rattle.cm_steps.proofs.replies.surveying.SurveyRowReportable.told.Goals as goal

pub returns-then-is_gone : goal.returns-then-is_gone
returns-then-is_gone c = λ r lives.
    gone_unseen c.args.table.now.rows c.args.inc r (sym c.is_gone.ensures ∙ c.if-is_gone.true) lives

pub returns : goal.returns
returns c = λ r lives.
    here_seen c.args.table.now.rows c.args.inc c.in_ok-row.row r (sym c.is_gone.ensures ∙ c.if-is_gone.false) (c.in_ok-row.ensures r lives) lives
