-- Promised.
-- The run of `events`, which asks what happened: one turn, which reads the history and tells its
-- length.
use Rattle.std.specs.Prelude.{ℕ, List, Result, Ok, Err}
use Rattle.cm_world.specs.declared.answer.Answer.{Answer}
use Rattle.cm_world.specs.declared.answer.Answer.TheVariants as answer
use Rattle.cm_world.specs.declared.answer.Refusal.{Refusal}
use Rattle.cm_world.specs.declared.answer.Refusal.TheVariants as refusal
use Rattle.cm_world.specs.declared.event.Event.TheVariants as event
use Rattle.cm_world.specs.declared.frame.Frame.{Frame}
use Rattle.cm_world.specs.declared.reply.Entry.{Entry}
use Rattle.cm_world.specs.declared.reply.Reply.{Reply}
use Rattle.cm_world.specs.declared.reply.Reply.TheVariants as reply
use Rattle.cm_world.specs.Rows.{moniker_of}
use Rattle.cm_events.specs.Stream.{stream}
use Rattle.cm_answers.specs.Answers.{refusal_of}
use Rattle.cm_manager.specs.Turns.{AddsWithinRoom, EndsWithoutEntry, world_after}

-- the answer that a reply to a tail of row i means: what happened at and below the row, as the history
-- before that entry tells
abbrev pub streamed_by : Frame → List Entry → ℕ → ℕ → Reply → Result Answer Refusal
streamed_by f found from i (reply.Tailed n) =
    Ok (answer.Streamed n (stream found from n (moniker_of (world_after f found).rows i)))
streamed_by f found from i r = Err (refusal_of r)

-- one turn at row i: its entry tells how long the history is, and the answer is read of the history
-- before it; or the turn makes no entry and ends the call
pub data Streams (f : Frame) (c from i : ℕ) : List Entry → List Entry → Result Answer Refusal → Type 0 where
  told : {h₀ h₁ : List Entry} {r : Reply} (asks : AddsWithinRoom f c h₀ (event.Tail i from) r h₁)
      → Streams f c from i h₀ h₁ (streamed_by f asks.made.found from i r)
  cut : {h₀ h₁ : List Entry} {x : Refusal} → EndsWithoutEntry f c h₀ (event.Tail i from) h₁ x
      → Streams f c from i h₀ h₁ (Err x)
