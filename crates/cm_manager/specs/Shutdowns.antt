-- Promised.
-- What a call does that shuts an instance down or destroys it, as rules. Each tells from which history to
-- which later one it goes, and what ended the call there, if anything did.
use Rattle.std.specs.Prelude.{◌≡◌, ℕ, List, Bool, true, Option, Some, None}
use Rattle.cm_world.specs.declared.frame.Frame.{Frame}
use Rattle.cm_world.specs.declared.event.Event.TheVariants as event
use Rattle.cm_world.specs.declared.reply.Entry.{Entry}
use Rattle.cm_world.specs.declared.reply.Reply.{Reply}
use Rattle.cm_world.specs.declared.answer.Refusal.{Refusal}
use Rattle.cm_manager.specs.Turns.{AddsWithinRoom, EndsWithoutEntry}
use Rattle.cm_answers.specs.Answers.{unmarked}
use Rattle.cm_manager.specs.Sweeps.{Stops}

-- a row is marked, to be destroyed or only shut down, and then stopped with all below it
pub data Shuts (f : Frame) (c : ℕ) (doom : Bool) (i : ℕ)
    : List Entry → List Entry → Option Refusal → Type 0 where
  -- it is marked, now or before
  marked : {h₀ h₁ h₂ : List Entry} {r : Reply} {end : Option Refusal}
      → AddsWithinRoom f c h₀ (event.Mark doom i) r h₁
      → unmarked r ≡ None
      → Stops f c i h₁ h₂ end
      → Shuts f c doom i h₀ h₂ end
  -- it can't be marked
  refused : {h₀ h₁ : List Entry} {r : Reply} {x : Refusal}
      → AddsWithinRoom f c h₀ (event.Mark doom i) r h₁
      → unmarked r ≡ Some x
      → Shuts f c doom i h₀ h₁ (Some x)
  -- the call ends before it is marked
  cut_mark : {h₀ h₁ : List Entry} {x : Refusal}
      → EndsWithoutEntry f c h₀ (event.Mark doom i) h₁ x
      → Shuts f c doom i h₀ h₁ (Some x)

-- a row is shut down to be destroyed, and then removed
pub data Destroys (f : Frame) (c i : ℕ) : List Entry → List Entry → Option Refusal → Type 0 where
  -- it is removed now, or was before, as the reply says
  purged : {h₀ h₁ h₂ : List Entry} {r : Reply}
      → Shuts f c true i h₀ h₁ None
      → AddsWithinRoom f c h₁ (event.Purge i) r h₂
      → Destroys f c i h₀ h₂ None
  -- the call ends before it is removed
  cut_purge : {h₀ h₁ h₂ : List Entry} {x : Refusal}
      → Shuts f c true i h₀ h₁ None
      → EndsWithoutEntry f c h₁ (event.Purge i) h₂ x
      → Destroys f c i h₀ h₂ (Some x)
  -- or before all is shut
  unshut : {h₀ h₁ : List Entry} {x : Refusal}
      → Shuts f c true i h₀ h₁ (Some x)
      → Destroys f c i h₀ h₁ (Some x)
