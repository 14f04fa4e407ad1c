-- Inside.
-- A caller of the manager as contracts see it, and what its methods promise.
use Rattle.std.specs.Prelude.{◌≡◌, ℕ, List, [], Option, Some, None, Result, Ok, IsSome}
use Rattle.cm_turn.specs.Passes.{LockView}
use Rattle.cm_world.specs.declared.action.ActKind.{ActKind}
use Rattle.cm_world.specs.declared.action.Finish.{Finish}
use Rattle.cm_world.specs.declared.action.Work.{Work}
use Rattle.cm_world.specs.declared.answer.Answer.{Answer}
use Rattle.cm_world.specs.declared.answer.Refusal.{Refusal}
use Rattle.cm_world.specs.declared.event.Target.{Target}
use Rattle.cm_world.specs.declared.event.Target.TheVariants as target
use Rattle.cm_world.specs.declared.frame.Frame.{Frame}
use Rattle.cm_world.specs.declared.reply.Entry.{Entry}
use Rattle.cm_command.specs.declared.command.Command.{Command}
use Rattle.cm_manager.specs.Asking.{frame_of}
use Rattle.cm_manager.specs.Calls.{Calls, Finding}
use Rattle.cm_manager.specs.Contract.{RealmPass, GatesView, IsSamePass, IsSubcall}
use Rattle.cm_manager.specs.Doing.{Did}
use Rattle.cm_manager.specs.Managers.{ManagerView}

-- the manager that is called, the caller's pass, and its gates, which stand behind a reference of this name
pub record CallerView : Type 0 where
  pub manager : ManagerView
  pub pass : RealmPass
  pub name : ℕ
  pub gates : GatesView

-- the pass that a caller has in hand, but within a turn
abbrev pub pass_in : LockView → Option RealmPass → RealmPass
pass_in lock (Some p) = p
pass_in lock None = record { lock = lock.lock; frame = None; caller = 0; seen = []; mine = [] }

-- the same caller of the same manager, whose gates are the same ones
pub record IsSameCaller (old new : CallerView) : Type 0 where
  pub manager : new.manager ≡ old.manager
  pub name : new.name ≡ old.name

-- turns alone: the gates are as they were
pub record TakesTurns (old new : CallerView) : Type 0 where
  pub caller : IsSameCaller old new
  pub gates : new.gates ≡ old.gates
  pub pass : IsSamePass (frame_of old.pass) old.pass new.pass

-- the work of an action alone: the pass is as it was
pub record WorksOutsideTurn (kind : ActKind) (w : Work) (end : Finish) (old new : CallerView) : Type 0 where
  pub caller : IsSameCaller old new
  pub pass : new.pass ≡ old.pass
  pub did : Did old.manager.manifests w kind end old.gates new.gates

-- ways of a caller in its frame
abbrev pub CallerWay : Type 1
CallerWay = Frame → ℕ → List Entry → List Entry → Type 0

-- the caller came this way, with the work of its part
pub record CallerRuns (Way : CallerWay) (old new : CallerView) : Type 0 where
  pub caller : IsSameCaller old new
  pub helps : IsSubcall old.manager.manifests (frame_of old.pass) (Way (frame_of old.pass) old.pass.caller)
      old.pass new.pass old.gates new.gates

-- one command of the caller, with its answer
abbrev pub CallerPerforms : Command → CallerView → CallerView → Result Answer Refusal → Type 0
CallerPerforms command old new a = CallerRuns (λ f c h₀ h₁. Calls f c command h₀ h₁ a) old new

-- the row of a target: an incarnation is taken as it stands, and nothing is done; a moniker is looked for
abbrev pub CallerFinds : Target → CallerView → CallerView → Result ℕ Refusal → Type 0
CallerFinds (target.Inc n) old new row = (new ≡ old) × (row ≡ Ok n)
CallerFinds (target.Named m) old new row =
    CallerRuns (λ f c h₀ h₁. Finding f c (target.Named m) h₀ h₁ row) old new
