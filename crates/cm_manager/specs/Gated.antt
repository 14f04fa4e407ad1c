-- Inside.
-- What contracts say of calls with gates, through the ghost members of the gates.
use Rattle.std.specs.Prelude.{ℕ, List, Option, Result}
use Rattle.cm_world.specs.declared.action.ActKind.{ActKind}
use Rattle.cm_world.specs.declared.action.Finish.{Finish}
use Rattle.cm_world.specs.declared.action.Work.{Work}
use Rattle.cm_world.specs.declared.answer.Answer.{Answer}
use Rattle.cm_world.specs.declared.answer.Refusal.{Refusal}
use Rattle.cm_world.specs.declared.frame.Frame.{Frame}
use Rattle.cm_world.specs.declared.reply.Entry.{Entry}
use Rattle.cm_command.specs.declared.command.Command.{Command}
use Rattle.cm_gate.specs.declared.asked.GateCall.{GateCall}
use Rattle.cm_manager.specs.Asking.{frame_of}
use Rattle.cm_manager.specs.Contract.{RealmPass, GatesView, IsWholeCall}
use Rattle.cm_manager.specs.Doing.{Did}
use Rattle.cm_manager.specs.Work.{Manifests}

module _ {G : Type 0} (log_of : G → Option (List GateCall)) (faults_of : G → ℕ) where
  -- gates as contracts see them: their log and their count of faults
  abbrev pub gates_view : G → GatesView
  gates_view g = record { log = log_of g; faults = faults_of g }

  -- one whole call of the manager, with the work of these gates
  abbrev pub PerformsWith : Manifests → Command → RealmPass → RealmPass → G → G → Result Answer Refusal
      → Type 0
  PerformsWith manifests command old new gates₀ gates₁ a =
      IsWholeCall manifests (frame_of old) command old new (gates_view gates₀) (gates_view gates₁) a

  -- the work of an action was done by these gates
  abbrev pub DidWith : Manifests → Work → ActKind → Finish → G → G → Type 0
  DidWith manifests w kind end gates₀ gates₁ =
      Did manifests w kind end (gates_view gates₀) (gates_view gates₁)
