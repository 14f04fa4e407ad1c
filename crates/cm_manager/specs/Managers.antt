-- Inside.
-- A manager as contracts see it.
use Rattle.std.specs.Prelude.{◌≡◌, List, All}
use Rattle.cm_turn.specs.Passes.{LockView, BearsPassOut, HasCaller}
use Rattle.cm_world.specs.declared.frame.Frame.{Frame}
use Rattle.cm_world.specs.declared.reply.Entry.{Entry}
use Rattle.cm_world.specs.World.{start}
use Rattle.cm_world.specs.Legal.{Legal, owed_by}
use Rattle.cm_book.specs.History.{History}
use Rattle.cm_laws.specs.Story.{Story}
use Rattle.cm_laws.specs.Histories.{KeepsLaws}
use Rattle.cm_manager.specs.Turns.{world_after}
use Rattle.cm_manager.specs.Contract.{RealmPass}
use Rattle.cm_manager.specs.Work.{Manifests}

-- a manager as contracts see it: the lock round its realm, and where it looks for manifests
pub record ManagerView : Type 0 where
  pub turn : LockView
  pub manifests : Manifests

-- a history that bears these passes out: it is legal in the frame that they tell, begins with what
-- each has seen, has those entries of each caller that its pass knows, and no entry of anybody else.
-- It keeps the laws of every legal history
pub record BearsPassesOut (history : List Entry) (passes : List RealmPass) : Type 0 where
  pub story : Story
  pub entries : history ≡ story.entries
  pub legal : Legal (start story.frame) history
  pub known : All (BearsPassOut (λ (s : Story). s.entries) (λ s. s.frame) (λ
      (e : Entry). e.caller) story) passes
  pub callers : All (λ (e : Entry). HasCaller passes e.caller) history
  pub laws : KeepsLaws story.frame history

-- the book that a realm with this frame leaves: it takes as many entries as the frame says, and keeps
-- room for those that are owed
pub record IsBookOf (f : Frame) (book : History) : Type 0 where
  pub limit : book.limit ≡ f.limits.entries
  pub reserved : book.reserved ≡ owed_by (world_after f book.entries)
