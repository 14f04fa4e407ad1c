-- Inside.
-- What a call of the manager says of the pass and the gates that it was given.
use Rattle.std.specs.Prelude.{◌≡◌, ℕ, List, ◌++◌, Option, Result}
use Rattle.cm_turn.specs.History.{StartsWith}
use Rattle.cm_turn.specs.Passes.{PassView}
use Rattle.cm_world.specs.declared.frame.Frame.{Frame}
use Rattle.cm_world.specs.declared.reply.Entry.{Entry}
use Rattle.cm_world.specs.declared.answer.Answer.{Answer}
use Rattle.cm_world.specs.declared.answer.Refusal.{Refusal}
use Rattle.cm_world.specs.World.{start}
use Rattle.cm_world.specs.Legal.{Legal}
use Rattle.cm_command.specs.declared.command.Command.{Command}
use Rattle.cm_gate.specs.declared.asked.GateCall.{GateCall}
use Rattle.cm_manager.specs.Turns.{own_entries}
use Rattle.cm_manager.specs.Calls.{Calls}
use Rattle.cm_manager.specs.Work.{Manifests, WorksWith}
use Rattle.cm_manager.specs.ClosedInside.{IsClosed}

-- the pass by which a caller takes its turns at a realm
abbrev pub RealmPass : Type 0
RealmPass = PassView Entry Frame

-- gates to the outside as contracts see them: the log that they tell, and their count of faults
pub record GatesView : Type 0 where
  pub log : Option (List GateCall)
  pub faults : ℕ

-- the pass is the same one, and has seen a later, legal history, with all entries of its own
pub record IsSamePass (f : Frame) (old new : RealmPass) : Type 0 where
  pub lock : new.lock ≡ old.lock
  pub frame : new.frame ≡ old.frame
  pub caller : new.caller ≡ old.caller
  pub seen : StartsWith new.seen old.seen
  pub own : new.mine ≡ own_entries new.caller new.seen
  pub legal : Legal (start f) new.seen

-- a part of a call: it takes this way from what the pass had seen to what it has seen then, and the
-- gates do the work of its entries
pub record IsSubcall (manifests : Manifests) (f : Frame) (CallWay : List Entry → List Entry
    → Type 0) (old new : RealmPass)
    (gates₀ gates₁ : GatesView) : Type 0 where
  pub same : IsSamePass f old new
  pub way : CallWay old.seen new.seen
  pub part : List Entry
  pub mine : new.mine ≡ old.mine ++ part
  pub closed : IsClosed part
  pub work : WorksWith manifests part gates₀.log gates₁.log gates₀.faults gates₁.faults

-- one call of the manager with its answer. One that has made all its entries isn't answered with lack
-- of memory, but for `doctor`, which may lack it after its last line
abbrev pub IsWholeCall : Manifests → Frame → Command → RealmPass → RealmPass → GatesView → GatesView
    → Result Answer Refusal → Type 0
IsWholeCall manifests f command old new gates₀ gates₁ a =
    IsSubcall manifests f (λ h₀ h₁. Calls f old.caller command h₀ h₁ a) old new gates₀ gates₁
