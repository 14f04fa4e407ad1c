-- Inside.
-- When a step of a realm is refused, so that no entry is made.
use Rattle.std.specs.Prelude.{◌≡◌, ℕ, ◌+◌, ◌<◌, ◌≤◌, false, length, None}
use Rattle.cm_world.specs.declared.action.ActKind.{ActKind}
use Rattle.cm_world.specs.Rows.{is_subtree_shut}
use Rattle.cm_world.specs.World.{World}
use Rattle.cm_world.specs.Stopping.{CanPick}
use Rattle.cm_world.specs.Legal.{owed_by}
use Rattle.cm_world.specs.Begin.{begin_reply}
use Rattle.cm_world.specs.Reports.{exit_reply}
use Rattle.cm_order.specs.Picking.{BlockedBy}
use Rattle.cm_laws.specs.Story.{Story, world_of}
use Rattle.cm_laws.specs.Tasks.{IsPendingAt}
use Rattle.cm_steps.specs.Tasks.{IsPendingAs}
use Rattle.cm_steps.specs.declared.nostep.NoStep.{NoStep}
use Rattle.cm_steps.specs.declared.nostep.NoStep.TheVariants.{Busy, HistoryFull, Memory}

-- ---- room

-- the history has room for so many entries, with those that are owed already
abbrev pub RealmHasRoom : Story → ℕ → Type 0
RealmHasRoom s need = length s.entries + owed_by (world_of s) + need ≤ s.frame.limits.entries

-- the history has no room for so many entries, with those that are owed already
abbrev pub LacksRoom : Story → ℕ → Type 0
LacksRoom s need = s.frame.limits.entries < length s.entries + owed_by (world_of s) + need

-- ---- refusals

-- why an event is refused that needs room for so many entries and waits for an action of which Waits
-- holds; memory may run out at any time
abbrev pub RefusesStep : Story → ℕ → (ℕ → Type 0) → NoStep → Type 0
RefusesStep s need Waits (Busy a) = RealmHasRoom s need × Waits a
RefusesStep s need Waits HistoryFull = LacksRoom s need
RefusesStep s need Waits Memory = Unit {0}

-- why an event is refused that never has to wait
abbrev pub RefusesQuiet : Story → NoStep → Type 0
RefusesQuiet s = RefusesStep s 1 (λ a. ⊥)

-- a begin has no reply, since an action of another kind is pending at that very row: this one
pub record WaitsToBegin (w : World) (kind : ActKind) (i a : ℕ) : Type 0 where
  pub unanswered : begin_reply w.rows w.next_action kind i ≡ None
  pub at : IsPendingAs w.rows i a
  pub pending : IsPendingAt w.acts i a

-- an exit has no reply, since an action is pending at that very row: this one
pub record WaitsToExit (w : World) (i a : ℕ) : Type 0 where
  pub unanswered : exit_reply w.rows i ≡ None
  pub at : IsPendingAs w.rows i a
  pub pending : IsPendingAt w.acts i a

-- a pick has no reply, since not all is shut and no row may be picked: this action is pending at a row
-- that could stop
pub record WaitsToPick (w : World) (target a : ℕ) : Type 0 where
  pub undone : is_subtree_shut w.rows target ≡ false
  pub stuck : CanPick w.rows target → ⊥
  pub blocked : BlockedBy w.rows target a
  pub pending : IsPendingAt w.acts blocked.inc a
