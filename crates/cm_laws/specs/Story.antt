-- Inside.
-- A history with what its realm was made with, and what one more entry does to it.
use Rattle.std.specs.Prelude.{◌≡◌, ℕ, List, [], ◌∷◌, ◌++◌}
use Rattle.cm_world.specs.declared.event.Event.{Event}
use Rattle.cm_world.specs.declared.reply.Reply.{Reply}
use Rattle.cm_world.specs.declared.reply.Entry.{Entry}
use Rattle.cm_world.specs.declared.frame.Frame.{Frame}
use Rattle.cm_world.specs.World.{World, start}
use Rattle.cm_world.specs.Legal.{Legal, IsStep, replay}

-- what a realm was made with (the frame), and all entries of its history
pub record Story : Type 0 where
  pub frame : Frame
  pub entries : List Entry

-- the tree that the history leaves
unfoldable pub world_of : Story → World
world_of s = replay (start s.frame) s.entries

-- the history is legal: each entry is allowed in the tree that those before it leave
unfoldable pub IsLegal : Story → Type 0
IsLegal s = Legal (start s.frame) s.entries

-- an entry of this caller, with this event and this reply
abbrev pub entry_of : ℕ → Event → Reply → Entry
entry_of caller event reply = record { caller = caller; event = event; reply = reply }

-- the history grew by one entry of this caller, which its tree allows
pub record AddsEntry (old new : Story) (caller : ℕ) (event : Event) (reply : Reply) : Type 0 where
  pub entries : new.entries ≡ old.entries ++ entry_of caller event reply ∷ []
  pub frame : new.frame ≡ old.frame
  pub step : IsStep (world_of old) (entry_of caller event reply)
