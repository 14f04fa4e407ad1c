-- Promised.
-- Commands that a caller performs one after another.
use Rattle.std.specs.Prelude.{ℕ, List, [], ◌∷◌, Result}
use Rattle.cm_world.specs.declared.answer.Answer.{Answer}
use Rattle.cm_world.specs.declared.answer.Refusal.{Refusal}
use Rattle.cm_world.specs.declared.frame.Frame.{Frame}
use Rattle.cm_world.specs.declared.reply.Entry.{Entry}
use Rattle.cm_command.specs.declared.command.Command.{Command}
use Rattle.cm_manager.specs.Turns.{IsLaterHistory}
use Rattle.cm_manager.specs.Calls.{RunsOrLoses}

-- a command with its answer
pub record Done : Type 0 where
  pub command : Command
  pub result : Result Answer Refusal

-- between two places of the history a caller performs these commands in order, each by one call, and
-- adds no entry besides
pub data PerformsCommands (f : Frame) (c : ℕ) : List Done → List Entry → List Entry → Type 0 where
  rests : {h₀ h₁ : List Entry} → IsLaterHistory c h₀ h₁ → PerformsCommands f c [] h₀ h₁
  performs : {d : Done} {others : List Done} {h₀ h₁ h₂ : List Entry}
      → RunsOrLoses f c d.command h₀ h₁ d.result
      → PerformsCommands f c others h₁ h₂
      → PerformsCommands f c (d ∷ others) h₀ h₂
