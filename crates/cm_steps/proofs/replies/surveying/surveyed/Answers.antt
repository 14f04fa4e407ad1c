use Rattle.std.proofs.Common.{sym, ap, ◌∙◌}
use Rattle.cm_world.specs.declared.reply.Reply.TheVariants.{Surveyed}
use Rattle.cm_steps.proofs.lemmas.read.Reporting.{survey_all}
use Rattle.cm_steps.proofs.replies.surveying.surveyed.Goals as goal

pub returns : goal.returns
returns c =
    ap Surveyed c.in_ok-new.ensures
    ∙ survey_all c.args.table.now.rows c.args.inc c.in_ok-rows.rows (sym c.is_gone.ensures ∙ c.if-is_gone.false) c.in_ok-rows.ensures
