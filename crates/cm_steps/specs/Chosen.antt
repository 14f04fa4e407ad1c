-- Inside.
-- Picks of an instance that is given; a replay of a journal makes them.
use Rattle.std.specs.Prelude.{◌≡◌, ℕ, List, Some}
use Rattle.cm_world.specs.declared.row.Row.{Row}
use Rattle.cm_world.specs.declared.reply.Reply.{Reply}
use Rattle.cm_world.specs.declared.event.Event.TheVariants.{Pick}
use Rattle.cm_laws.specs.Story.{Story, AddsEntry}
use Rattle.cm_laws.specs.Clients.{picked_by}
use Rattle.cm_steps.specs.Answers.{AnswersPick}
use Rattle.cm_steps.specs.declared.replies.picking.PickAnswer.{PickAnswer}
use Rattle.cm_steps.specs.declared.replies.picking.PickAnswer.TheVariants as pick

-- the answer to a pick chooses this row
abbrev pub Chooses : ℕ → PickAnswer → Type 0
Chooses i (pick.Shuts j) = j ≡ i
Chooses i (pick.Stops work) = work.inc ≡ i
Chooses i _ = ⊥

-- the answer to a pick is right for these rows and chooses row i
pub record AnswersThis (rows : List Row) (next target i : ℕ) (answer : PickAnswer) : Type 0 where
  pub answers : AnswersPick rows next target answer
  pub this : Chooses i answer

-- one more entry in the history: a pick whose reply chooses this row
pub record PicksThis (old new : Story) (caller target inc : ℕ) (reply : Reply) : Type 0 where
  pub step : AddsEntry old new caller (Pick target) reply
  pub this : picked_by (Pick target) reply ≡ Some inc
