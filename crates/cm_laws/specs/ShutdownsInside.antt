-- Inside.
-- The laws of shutdowns, as statements of every legal history; calls rest on them.
use Rattle.std.specs.Prelude.{◌≡◌, ℕ, List, ◌++◌, Contains, Bool, true, false, Some}
use Rattle.std.specs.Prelude.{IsTrue, ◌⊎◌}
use Rattle.cm_world.specs.declared.frame.Frame.{Frame}
use Rattle.cm_world.specs.declared.row.Row.{Row}
use Rattle.cm_world.specs.declared.action.ActKind.TheVariants.{Stop}
use Rattle.cm_world.specs.declared.action.Finish.{Finish}
use Rattle.cm_world.specs.declared.action.Work.{Work}
use Rattle.cm_world.specs.declared.event.Event.TheVariants.{Mark, Pick, Reap}
use Rattle.cm_world.specs.declared.reply.Reply.{Reply}
use Rattle.cm_world.specs.declared.reply.Reply.TheVariants as reply
use Rattle.cm_world.specs.declared.reply.Entry.{Entry}
use Rattle.cm_world.specs.Rows.{row_of, is_closing, is_subtree_shut}
use Rattle.cm_world.specs.World.{World, start}
use Rattle.cm_world.specs.Sound.{IsSound}
use Rattle.cm_world.specs.Legal.{Legal, replay}
use Rattle.cm_world.specs.End.{fits_kind, HasValid}
use Rattle.cm_world.specs.Step.{MayEnd, may_close, may_purge}
use Rattle.cm_trees.specs.Laws.{CanStop}
use Rattle.cm_laws.specs.Story.{Story, world_of, IsLegal, AddsEntry}
use Rattle.cm_laws.specs.Shutdowns.{IsLeaving, IsMarked}

-- the tree that a legal history leaves is sound
abbrev pub TreesStaySound : Type 0
TreesStaySound =
    (f : Frame) (es : List Entry) → Legal (start f) es
    → IsSound (replay (start f) es).rows (replay (start f) es).next_inc

-- an entry that marks a row, or finds it marked, leaves it marked
abbrev pub MarksMark : Type 0
MarksMark =
    (old new : Story) (caller i : ℕ) (doom : Bool) (r : Reply) → IsLegal old
    → AddsEntry old new caller (Mark doom i) r
    → (r ≡ reply.Marked) ⊎ (r ≡ reply.Already) → IsMarked doom (world_of new) i

-- what is marked stays marked in every later tree
abbrev pub MarksStay : Type 0
MarksStay =
    (w : World) (es : List Entry) (i : ℕ) (doom : Bool) → Legal w es → IsMarked doom w i
    → IsMarked doom (replay w es) i

-- what a reap names is marked to be destroyed
abbrev pub ReapsMarked : Type 0
ReapsMarked =
    (old new : Story) (caller i c : ℕ) (incs : List ℕ) → IsLegal old
    → AddsEntry old new caller (Reap i) (reply.Reaping incs) → Contains incs c
    → IsMarked true (world_of new) c

-- a pick may be made for what is marked
abbrev pub MarkedMayClose : Type 0
MarkedMayClose = (w : World) (i : ℕ) (doom : Bool) → IsMarked doom w i → IsTrue (may_close w.rows i)

-- a row is leaving, and all at and below it is shut
pub record IsShutBelow (w : World) (i : ℕ) : Type 0 where
  pub leaving : IsLeaving w i
  pub shut : IsTrue (is_subtree_shut w.rows i)

-- where a pick is answered that all is done, it is
abbrev pub DoneIsOver : Type 0
DoneIsOver =
    (old new : Story) (caller i : ℕ) → IsLeaving (world_of old) i
    → AddsEntry old new caller (Pick i) reply.Done
    → IsShutBelow (world_of new) i

-- what is shut with all below it stays so in every later tree
abbrev pub OverStays : Type 0
OverStays =
    (f : Frame) (es fs : List Entry) (i : ℕ) → Legal (start f) (es ++ fs)
    → IsShutBelow (replay (start f) es) i → IsShutBelow (replay (start f) (es ++ fs)) i

-- what is marked to be destroyed may be removed once all at and below it is shut
abbrev pub OverMayPurge : Type 0
OverMayPurge = (w : World) (i : ℕ) → IsMarked true w i → IsShutBelow w i → IsTrue (may_purge w.rows i)

-- in the tree that a legal history leaves, as long as a row that is being shut down isn't shut, some
-- such row may stop
abbrev pub ShutdownsGoOn : Type 0
ShutdownsGoOn =
    (f : Frame) (es : List Entry) (i : ℕ) (r : Row) → Legal (start f) es
    → row_of (replay (start f) es).rows i ≡ Some r → IsTrue (is_closing (replay (start f) es).rows i)
    → r.shut ≡ false → CanStop (replay (start f) es).rows i

-- who picked an instance to be stopped may end its stop next
abbrev pub PickersMayEnd : Type 0
PickersMayEnd =
    (old new : Story) (caller target : ℕ) (work : Work) (finish : Finish)
    → AddsEntry old new caller (Pick target) (reply.Stopping work) → IsTrue (fits_kind Stop finish)
    → HasValid finish → MayEnd (world_of new).acts caller work.action finish
