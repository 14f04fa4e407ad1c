-- Promised.
-- What holds of trees in which instances are shut down and destroyed.
use Rattle.std.specs.Prelude.{◌≡◌, ℕ, ◌<◌, List, ◌∷◌, ◌++◌, Bool, true, false, not, ◌||◌, Some}
use Rattle.std.specs.Prelude.{IsTrue, ◌⊎◌}
use Rattle.cm_world.specs.declared.frame.Frame.{Frame}
use Rattle.cm_world.specs.declared.row.Row.{Row}
use Rattle.cm_world.specs.declared.event.Event.TheVariants.{Mark, Pick}
use Rattle.cm_world.specs.declared.reply.Reply.TheVariants as reply
use Rattle.cm_world.specs.declared.reply.Entry.{Entry}
use Rattle.cm_world.specs.Rows.{row_of, is_live, has_closing, has_doomed, is_closing, is_subtree_shut}
use Rattle.cm_world.specs.World.{World, start}
use Rattle.cm_world.specs.Legal.{replay}
use Rattle.cm_trees.specs.Laws.{CanStop}

-- a row that was once there is marked to be shut down, or has left the tree since
pub record IsLeaving (w : World) (i : ℕ) : Type 0 where
  pub known : i < w.next_inc
  pub marked : IsTrue (not (is_live w.rows i) || has_closing w.rows i)

-- a row that was once there is marked to be destroyed, or has left the tree since
pub record IsDying (w : World) (i : ℕ) : Type 0 where
  pub known : i < w.next_inc
  pub marked : IsTrue (not (is_live w.rows i) || has_doomed w.rows i)

-- the row is marked to be shut down, and, where doom is true, to be destroyed; or it has left the tree
abbrev pub IsMarked : Bool → World → ℕ → Type 0
IsMarked doom w i = IsLeaving w i × (doom ≡ true → IsDying w i)

-- once an entry marks a row, or finds it marked, the row is marked then and in each later tree
abbrev pub MarksHold : Frame → List Entry → Type 0
MarksHold f es =
    (prefix mid rest : List Entry) (e : Entry) (i : ℕ) (doom : Bool) → es ≡ prefix ++ e ∷ (mid ++ rest)
    → e.event ≡ Mark doom i → (e.reply ≡ reply.Marked) ⊎ (e.reply ≡ reply.Already)
    → IsMarked doom (replay (start f) (prefix ++ e ∷ mid)) i

-- once a pick was answered that all is done, all at and below its target is shut, then and in each
-- later tree; an incarnation that no row has had yet isn't spoken of
abbrev pub DoneStaysShut : Frame → List Entry → Type 0
DoneStaysShut f es =
    (prefix mid rest : List Entry) (e : Entry) (t : ℕ) → es ≡ prefix ++ e ∷ (mid ++ rest)
    → e.event ≡ Pick t → e.reply ≡ reply.Done → t < (replay (start f) prefix).next_inc
    → IsTrue (is_subtree_shut (replay (start f) (prefix ++ e ∷ mid)).rows t)

-- ---- no dead end

-- a shutdown never comes to a dead end: in each tree on the way, as long as a row that is being shut
-- down isn't shut, some such row may stop
abbrev pub ShutdownGoesOn : Frame → List Entry → Type 0
ShutdownGoesOn f es =
    (prefix rest : List Entry) (i : ℕ) (r : Row) → es ≡ prefix ++ rest
    → row_of (replay (start f) prefix).rows i ≡ Some r → IsTrue (is_closing (replay (start f) prefix).rows i)
    → r.shut ≡ false → CanStop (replay (start f) prefix).rows i

-- ---- stops
