-- Inside.
-- What a call that was answered well leaves of the row that its target names.
use Rattle.std.specs.Prelude.{◌≡◌, ℕ, ◌<◌, List, Ok, IsFalse}
use Rattle.cm_turn.specs.History.{StartsWith}
use Rattle.cm_world.specs.declared.answer.Answer.{Answer}
use Rattle.cm_world.specs.declared.event.Target.{Target}
use Rattle.cm_world.specs.declared.frame.Frame.{Frame}
use Rattle.cm_world.specs.declared.reply.Entry.{Entry}
use Rattle.cm_world.specs.Rows.{is_live}
use Rattle.cm_world.specs.World.{World, start}
use Rattle.cm_world.specs.Legal.{Legal}
use Rattle.cm_command.specs.declared.command.Command.{Command}
use Rattle.cm_command.specs.declared.command.Command.TheVariants as command
use Rattle.cm_laws.specs.ShutdownsInside.{IsShutBelow}
use Rattle.cm_manager.specs.Turns.{world_after}
use Rattle.cm_manager.specs.Calls.{Finding, RunsOrLoses}

-- a row that was once there, and isn't any more
pub record IsRemoved (w : World) (i : ℕ) : Type 0 where
  pub known : i < w.next_inc
  pub gone : IsFalse (is_live w.rows i)

-- the row that a call found for its target on its way, and what holds of it in the tree after the call
pub record LeavesRow (f : Frame) (c : ℕ) (t : Target) (Holds : World → ℕ → Type 0) (h₀ h₁ : List Entry)
    : Type 0 where
  pub row : ℕ
  pub found_at : List Entry
  pub finding : Finding f c t h₀ found_at (Ok row)
  pub within : StartsWith h₁ found_at
  pub holds : Holds (world_after f h₁) row

-- this command, answered well with whatever answer, leaves this of its row
abbrev pub LeavesSo : (Target → Command) → (World → ℕ → Type 0) → Type 0
LeavesSo command_on Holds =
    (f : Frame) (c : ℕ) (t : Target) (h₀ h₁ : List Entry) (a : Answer) → Legal (start f) h₁
    → RunsOrLoses f c (command_on t) h₀ h₁ (Ok a) → LeavesRow f c t Holds h₀ h₁

-- after a shutdown all rows at and below its row are shut
abbrev pub ShutdownsLeaveShut : Type 0
ShutdownsLeaveShut = LeavesSo command.Shutdown IsShutBelow

-- after a destruction its row is removed
abbrev pub DestructionsRemove : Type 0
DestructionsRemove = LeavesSo command.Destroy IsRemoved
