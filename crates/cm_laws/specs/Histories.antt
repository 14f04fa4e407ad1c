-- Promised.
-- All that holds of every legal history, in one.
use Rattle.std.specs.Prelude.{ℕ, List}
use Rattle.cm_world.specs.declared.frame.Frame.{Frame}
use Rattle.cm_world.specs.declared.reply.Entry.{Entry}
use Rattle.cm_world.specs.World.{start}
use Rattle.cm_world.specs.Legal.{replay}
use Rattle.cm_world.specs.Sound.{IsSound}
use Rattle.cm_laws.specs.Lasting.{OfEachEntry, HasStableRoutes, HasOneOutcome}
use Rattle.cm_laws.specs.Clients.{PicksClientsFirst}
use Rattle.cm_laws.specs.Shutdowns.{MarksHold, DoneStaysShut, ShutdownGoesOn}
use Rattle.cm_laws.specs.Destroying.{IsDoomed, IsDestroyed, KeepsGone, LeavesGone}

-- all laws that every legal history keeps
pub record KeepsLaws (f : Frame) (es : List Entry) : Type 0 where
  -- each route that was opened is one in the tree of that very entry
  pub routes : HasStableRoutes f es
  -- each action begins once and ends at most once, and everyone gets the one outcome
  pub outcomes : HasOneOutcome es
  -- what is picked in a shutdown has its clients shut
  pub clients : PicksClientsFirst f es
  -- what is marked to be shut down or destroyed stays so
  pub marks : MarksHold f es
  -- what a pick found done stays shut
  pub done : DoneStaysShut f es
  -- a shutdown never comes to a dead end
  pub goes_on : ShutdownGoesOn f es
  -- what an entry dooms is destroyed, and what is destroyed stays gone
  pub doomed : (i : ℕ) → IsDoomed f es i → IsDestroyed f es i
  pub destroyed : OfEachEntry (KeepsGone f) es
  -- and in the tree that is left what was destroyed is gone
  pub left : LeavesGone f es
  -- the tree that is left is sound
  pub sound : IsSound (replay (start f) es).rows (replay (start f) es).next_inc
