-- Inside.
-- What deciders tell a call of its replies and actions.
use Rattle.std.specs.Prelude.{◌≡◌, ℕ, Bool, true, false, Option, Some, None, Result, Ok, Err}
use Rattle.cm_world.specs.declared.action.ActKind.{ActKind}
use Rattle.cm_world.specs.declared.action.ActKind.TheVariants as kind
use Rattle.cm_world.specs.declared.action.Outcome.{Outcome}
use Rattle.cm_world.specs.declared.action.Outcome.TheVariants as outcome
use Rattle.cm_world.specs.declared.reply.Reply.{Reply}
use Rattle.cm_world.specs.declared.reply.Reply.TheVariants as reply
use Rattle.cm_answers.specs.declared.acted.ActionResult.{ActionResult}
use Rattle.cm_world.specs.declared.answer.Answer.{Answer}
use Rattle.cm_world.specs.declared.answer.Answer.TheVariants as answer
use Rattle.cm_world.specs.declared.answer.Refusal.{Refusal}
use Rattle.cm_answers.specs.Answers.{ends_call, acted_answer, is_killed, unmarked}

-- whether an action went well, so that the call that wanted it goes on
abbrev pub is_well : Outcome → Bool
is_well outcome.Resolved = true
is_well outcome.Started = true
is_well outcome.Stopped = true
is_well outcome.Killed = true
is_well _ = false

-- what came of an action is handed back where it ends the call, and isn't where the call goes on
abbrev pub FailsBy : Result ActionResult Refusal → Option (Result ActionResult Refusal) → Type 0
FailsBy went (Some same) = (x : Refusal) × (same ≡ went) × (ends_call went ≡ Some x)
FailsBy went None = ends_call went ≡ None

-- the child that a create made, if it made one
abbrev pub created_in : Result Reply Refusal → Option ℕ
created_in (Ok (reply.Created i)) = Some i
created_in _ = None

-- whether an exit found the program on
abbrev pub has_left : Result Reply Refusal → Bool
has_left (Ok (reply.Left m)) = true
has_left _ = false

-- what ends a call that marks a row, by the reply or by what came before it
abbrev pub unmarked_by : Result Reply Refusal → Option Refusal
unmarked_by (Ok r) = unmarked r
unmarked_by (Err x) = Some x

-- the answer that is made of an action of this kind
abbrev pub made_by : ActKind → Option ℕ → Outcome → Answer
made_by kind.Resolve a o = answer.Resolved a
made_by kind.Start a o = answer.Started a
made_by kind.Stop a o = answer.Stopped a (is_killed o)

-- the answer to `resolve`, `start` or `stop`, by what came of the action
abbrev pub answer_by : ActKind → Result ActionResult Refusal → Result Answer Refusal
answer_by k = acted_answer (made_by k)

-- the answer that is made of an action's number and outcome, or the refusal
abbrev pub answer_of : (Option ℕ → Outcome → Answer) → Result (Option ℕ × Outcome) Refusal
    → Result Answer Refusal
answer_of made (Ok ended) = Ok (made ended.0 ended.1)
answer_of made (Err x) = Err x

-- what became of an action is told as a number and an outcome, or a refusal, of which every answer can
-- be made
abbrev pub EndsIn : Result ActionResult Refusal → Result (Option ℕ × Outcome) Refusal → Type 0
EndsIn went ended = (made : Option ℕ → Outcome → Answer) → answer_of made ended ≡ acted_answer made went
