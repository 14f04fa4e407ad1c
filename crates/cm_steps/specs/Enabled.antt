-- Inside.
-- Which events a caller may make, apart from whether a declaration that an end brings is valid, which
-- is checked before.
use Rattle.std.specs.Prelude.{◌≡◌, ◌↔◌, ℕ, List, Bool, true, Option, None, Some, IsTrue}
use Rattle.cm_world.specs.declared.action.Act.{Act}
use Rattle.cm_world.specs.declared.action.ActKind.{ActKind}
use Rattle.cm_world.specs.declared.action.Finish.{Finish}
use Rattle.cm_world.specs.declared.event.Event.{Event}
use Rattle.cm_world.specs.declared.event.Event.TheVariants.{End}
use Rattle.cm_world.specs.World.{World, act_of}
use Rattle.cm_world.specs.Begin.{same_act}
use Rattle.cm_world.specs.End.{fits_kind, HasValid}
use Rattle.cm_world.specs.Step.{IsEnabled}

-- the caller may end the action so, apart from the validity of a declaration: it began it, it has no
-- outcome yet, and the end fits its kind
pub record MayEndBut (acts : List Act) (caller action : ℕ) (finish : Finish) : Type 0 where
  pub act : Act
  pub there : act_of acts action ≡ Some act
  pub pending : act.outcome ≡ None
  pub own : act.by ≡ caller
  pub fitting : IsTrue (fits_kind act.kind finish)

-- whether an action of this kind may begin, or join, where this one is pending
abbrev pub goes_with : ActKind → Option (ActKind × ℕ) → Bool
goes_with kind None = true
goes_with kind (Some p) = same_act kind p.0

-- the caller may make this event now, apart from the validity of a declaration that it brings
abbrev pub IsEnabledBut : World → ℕ → Event → Type 0
IsEnabledBut w caller (End a finish) = MayEndBut w.acts caller a finish
IsEnabledBut w caller e = IsEnabled w caller e

-- the declaration that an event brings, if it brings one, is valid
abbrev pub BringsValid : Event → Type 0
BringsValid (End a finish) = HasValid finish
BringsValid _ = Unit {0}

-- an event is enabled exactly where both hold
abbrev pub EnabledByBoth : Type 0
EnabledByBoth =
    (w : World) (caller : ℕ) (e : Event) → IsEnabled w caller e ↔ (IsEnabledBut w caller e × BringsValid e)
