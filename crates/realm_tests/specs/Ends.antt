-- Inside.
-- What caller 0 may do with an action that it began, whatever caller 1 does meanwhile.
use Rattle.std.specs.Prelude.{ℕ, IsTrue}
use Rattle.cm_world.specs.declared.action.ActKind.{ActKind}
use Rattle.cm_world.specs.declared.action.Finish.{Finish}
use Rattle.cm_world.specs.End.{fits_kind, HasValid}
use Rattle.cm_world.specs.World.{World}
use Rattle.cm_world.specs.Step.{MayEnd, may_close}
use Rattle.cm_laws.specs.Story.{Story, world_of}

-- it may end it in whatever fits its kind
abbrev pub CanEnd : World → ActKind → ℕ → Type 0
CanEnd w kind action = (f : Finish) → IsTrue (fits_kind kind f) → HasValid f → MayEnd w.acts 0 action f

-- an instance may be picked for, and what caller 0 could end it still may
abbrev pub MayClose : Story → Story → ℕ → Type 0
MayClose old new inc =
    IsTrue (may_close (world_of new).rows inc)
    × ((a : ℕ) (f : Finish) → MayEnd (world_of old).acts 0 a f → MayEnd (world_of new).acts 0 a f)
