-- Inside.
-- What of a history is a whole call.
use Rattle.std.specs.Prelude.{◌≡◌, ℕ, List, ◌++◌, Result}
use Rattle.cm_turn.specs.History.{StartsWith}
use Rattle.cm_world.specs.declared.frame.Frame.{Frame}
use Rattle.cm_world.specs.declared.reply.Entry.{Entry}
use Rattle.cm_world.specs.declared.answer.Answer.{Answer}
use Rattle.cm_world.specs.declared.answer.Answer.TheVariants as answer
use Rattle.cm_world.specs.declared.answer.Refusal.{Refusal}
use Rattle.cm_world.specs.World.{start}
use Rattle.cm_world.specs.Legal.{Legal}
use Rattle.cm_command.specs.declared.command.Command.{Command}
use Rattle.cm_manager.specs.Turns.{own_entries}
use Rattle.cm_manager.specs.Calls.{Calls}

-- these entries of the caller, in a legal history, are one whole call of this command with this answer
pub record Runs (f : Frame) (history : List Entry) (cmd : Command) (c : ℕ) (part : List Entry)
    (a : Result Answer Refusal) : Type 0 where
  pub legal : Legal (start f) history
  pub before : List Entry
  pub after : List Entry
  pub within : StartsWith history after
  pub goes : Calls f c cmd before after a
  pub part_is : own_entries c after ≡ own_entries c before ++ part
