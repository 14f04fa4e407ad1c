-- Promised.
-- How rows are stopped with all below them, and how those that went with a stopped instance are removed, as
-- rules. Each tells from which history to which later one it goes, and what ended the call there, if anything
-- did.
use Rattle.std.specs.Prelude.{ℕ, List, [], ◌∷◌, Option, Some, None}
use Rattle.cm_world.specs.declared.frame.Frame.{Frame}
use Rattle.cm_world.specs.declared.action.Finish.{Finish}
use Rattle.cm_world.specs.declared.action.Outcome.{Outcome}
use Rattle.cm_world.specs.declared.action.Work.{Work}
use Rattle.cm_world.specs.declared.event.Event.TheVariants as event
use Rattle.cm_world.specs.declared.reply.Entry.{Entry}
use Rattle.cm_world.specs.declared.reply.Reply.{Reply}
use Rattle.cm_world.specs.declared.reply.Reply.TheVariants as reply
use Rattle.cm_world.specs.declared.answer.Refusal.{Refusal}
use Rattle.cm_manager.specs.Turns.{AddsOneEntry, AddsWithinRoom, EndsWithoutEntry}

-- a target and all below it are stopped one by one, until a pick is answered that all is done; the
-- stop of an instance is ended, whatever the end says, before the next pick
pub data Stops (f : Frame) (c t : ℕ) : List Entry → List Entry → Option Refusal → Type 0 where
  -- all is shut
  all_shut : {h₀ h₁ : List Entry} → AddsWithinRoom f c h₀ (event.Pick t) reply.Done h₁
      → Stops f c t h₀ h₁ None
  -- one that was off is shut
  was_off : {i : ℕ} {h₀ h₁ h₂ : List Entry} {end : Option Refusal}
      → AddsWithinRoom f c h₀ (event.Pick t) (reply.ShutDown i) h₁
      → Stops f c t h₁ h₂ end
      → Stops f c t h₀ h₂ end
  -- one that was on is stopped
  was_on : {h₀ h₁ h₂ h₃ : List Entry} {w : Work} {finish : Finish} {o : Outcome} {end : Option Refusal}
      → AddsWithinRoom f c h₀ (event.Pick t) (reply.Stopping w) h₁
      → AddsOneEntry c h₁ (event.End w.action finish) (reply.Ended o) h₂
      → Stops f c t h₂ h₃ end
      → Stops f c t h₀ h₃ end
  -- the call ends before a pick
  cut_pick : {h₀ h₁ : List Entry} {x : Refusal}
      → EndsWithoutEntry f c h₀ (event.Pick t) h₁ x
      → Stops f c t h₀ h₁ (Some x)

-- a row that is doomed is stopped with all below it, and then removed
pub data Removes (f : Frame) (c i : ℕ) : List Entry → List Entry → Option Refusal → Type 0 where
  -- it is removed now, or was before, as the reply says
  removed : {h₀ h₁ h₂ : List Entry} {r : Reply}
      → Stops f c i h₀ h₁ None
      → AddsWithinRoom f c h₁ (event.Purge i) r h₂
      → Removes f c i h₀ h₂ None
  -- the call ends before it is removed
  cut_remove : {h₀ h₁ h₂ : List Entry} {x : Refusal}
      → Stops f c i h₀ h₁ None
      → EndsWithoutEntry f c h₁ (event.Purge i) h₂ x
      → Removes f c i h₀ h₂ (Some x)
  -- or before all is shut
  not_stopped : {h₀ h₁ : List Entry} {x : Refusal}
      → Stops f c i h₀ h₁ (Some x)
      → Removes f c i h₀ h₁ (Some x)

-- these rows are removed in order
pub data Clears (f : Frame) (c : ℕ) : List ℕ → List Entry → List Entry → Option Refusal → Type 0 where
  none_left : {h : List Entry} → Clears f c [] h h None
  next_row : {i : ℕ} {is : List ℕ} {h₀ h₁ h₂ : List Entry} {end : Option Refusal}
      → Removes f c i h₀ h₁ None
      → Clears f c is h₁ h₂ end
      → Clears f c (i ∷ is) h₀ h₂ end
  cut_row : {i : ℕ} {is : List ℕ} {h₀ h₁ : List Entry} {x : Refusal}
      → Removes f c i h₀ h₁ (Some x)
      → Clears f c (i ∷ is) h₀ h₁ (Some x)

-- what went with a row that stopped is removed: all that a reap of the row names
pub data Sweeps (f : Frame) (c i : ℕ) : List Entry → List Entry → Option Refusal → Type 0 where
  swept : {incs : List ℕ} {h₀ h₁ h₂ : List Entry} {end : Option Refusal}
      → AddsWithinRoom f c h₀ (event.Reap i) (reply.Reaping incs) h₁
      → Clears f c incs h₁ h₂ end
      → Sweeps f c i h₀ h₂ end
  -- the call ends before the reap
  cut_reap : {h₀ h₁ : List Entry} {x : Refusal}
      → EndsWithoutEntry f c h₀ (event.Reap i) h₁ x
      → Sweeps f c i h₀ h₁ (Some x)
