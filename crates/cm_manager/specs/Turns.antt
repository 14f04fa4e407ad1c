-- Promised.
-- What one turn of a caller adds to the history.
use Rattle.std.specs.Prelude.{◌≡◌, ℕ, ◌+◌, ◌<◌, ◌≤◌, List, [], ◌∷◌, ◌++◌, length}
use Rattle.cm_turn.specs.History.{StartsWith, entries_by}
use Rattle.cm_world.specs.declared.frame.Frame.{Frame}
use Rattle.cm_world.specs.declared.event.Event.{Event}
use Rattle.cm_world.specs.declared.reply.Entry.{Entry}
use Rattle.cm_world.specs.declared.reply.Reply.{Reply}
use Rattle.cm_world.specs.declared.answer.Refusal.{Refusal}
use Rattle.cm_world.specs.declared.answer.Refusal.TheVariants as refusal
use Rattle.cm_world.specs.World.{World, start}
use Rattle.cm_world.specs.Legal.{replay, owed_by}
use Rattle.cm_steps.specs.Needs.{need}

-- the tree that a history leaves
abbrev pub world_after : Frame → List Entry → World
world_after f es = replay (start f) es

-- the entries of one caller in a history, in order
abbrev pub own_entries : ℕ → List Entry → List Entry
own_entries c es = entries_by (λ e. e.caller) c es

-- a later history with no further entry of this caller: only others have taken turns
pub record IsLaterHistory (c : ℕ) (seen found : List Entry) : Type 0 where
  pub grows : StartsWith found seen
  pub own : own_entries c found ≡ own_entries c seen

-- one turn: it finds a later history, and adds one entry to it
pub record AddsOneEntry (c : ℕ) (old : List Entry) (event : Event) (reply : Reply)
    (new : List Entry) : Type 0 where
  pub found : List Entry
  pub later : IsLaterHistory c old found
  pub entries : new ≡ found ++ record { caller = c; event = event; reply = reply } ∷ []

-- the entries that there are, those that still have to come, and those that an event needs room for
abbrev pub wanted : Frame → List Entry → Event → ℕ
wanted f found event = length found + owed_by (world_after f found) + need event

-- a turn that adds one entry, for which there was room
pub record AddsWithinRoom (f : Frame) (c : ℕ) (old : List Entry) (event : Event) (reply : Reply)
    (new : List Entry)
    : Type 0 where
  pub made : AddsOneEntry c old event reply new
  pub room : wanted f made.found event ≤ f.limits.entries

-- a turn that adds no entry and ends the call: memory ran out, or there was no room
abbrev pub EndsWithoutEntry : Frame → ℕ → List Entry → Event → List Entry → Refusal → Type 0
EndsWithoutEntry f c old event new refusal.Memory = IsLaterHistory c old new
EndsWithoutEntry f c old event new refusal.HistoryFull = IsLaterHistory c old new
    × (f.limits.entries < wanted f new event)
EndsWithoutEntry f c old event new _ = ⊥
