use Rattle.std.proofs.Common.{◌≡◌, Some, sym, ◌∙◌}
use Rattle.std.proofs.lemmas.Result.{IfOk-weaker}
use Rattle.cm_world.specs.declared.row.Row.{Row}
use Rattle.cm_world.specs.Rows.{row_of}
use Rattle.cm_steps.specs.Answers.{AnswersBegin, AnswersIdle}
use Rattle.cm_steps.proofs.lemmas.read.Reading.{idle_answers}
use Rattle.cm_steps.proofs.replies.beginning.begin_answer.Goals as goal

pub returns-in-None-pending : goal.returns-in-None-pending
returns-in-None-pending c =
    IfOk-weaker c.idle_answer.result (λ answer. (r : Row) → row_of c.args.table.now.rows c.args.inc ≡ Some r → AnswersIdle c.args.table.now.rows c.args.next_action c.args.kind r answer) (AnswersBegin c.args.table.now.rows c.args.next_action c.args.kind c.args.inc)
    (λ answer h. idle_answers c.args.table.now.rows c.args.next_action c.args.inc c.args.kind c.in-Some.facts answer (sym c.standing_of-facts.ensures.gone ∙ c.if-gone.false) (sym c.in-Some.is ∙ c.standing_of-facts.ensures.facts) c.in-None-pending.is h) c.idle_answer.ensures
