-- Inside.
-- What the functions promise that do the work of an action.
use Rattle.std.specs.Prelude.{◌≡◌, ◌⊎◌, ℕ, List, Option, Some, None, Result, Ok, Err, IsTrue}
use Rattle.cm_decl.specs.declared.decl.Decl.{Decl}
use Rattle.cm_world.specs.declared.action.ActKind.{ActKind}
use Rattle.cm_world.specs.declared.action.FaultNote.{FaultNote}
use Rattle.cm_world.specs.declared.action.Finish.{Finish}
use Rattle.cm_world.specs.declared.action.Finish.TheVariants as finish
use Rattle.cm_world.specs.declared.action.Outcome.{Outcome}
use Rattle.cm_world.specs.declared.action.Outcome.TheVariants as outcome
use Rattle.cm_world.specs.declared.action.Work.{Work}
use Rattle.cm_world.specs.End.{fits_kind, HasValid}
use Rattle.cm_read.specs.declared.fault.ReadFault.{ReadFault}
use Rattle.cm_read.specs.declared.fault.ReadFault.TheVariants as read
use Rattle.cm_valid.specs.declared.fault.ValidFault.{ValidFault}
use Rattle.cm_valid.specs.declared.fault.ValidFault.TheVariants as valid
use Rattle.cm_gate.specs.declared.asked.GateCall.{GateCall}
use Rattle.cm_gate.specs.declared.asked.Launched.{Launched}
use Rattle.cm_gate.specs.declared.asked.Launched.TheVariants as launched
use Rattle.cm_gate.specs.declared.asked.Halted.{Halted}
use Rattle.cm_gate.specs.declared.asked.Halted.TheVariants as halted
use Rattle.cm_gate.specs.declared.asked.Job.{Job}
use Rattle.cm_gate.specs.Logs.{Grew}
use Rattle.cm_manager.specs.Work.{Judges, resolved_by, Manifests, DoesWork, Counts, job_of}
use Rattle.cm_manager.specs.Contract.{GatesView}

-- ---- manifests

-- the outcome of a resolve whose manifest can't be read
abbrev pub unread_outcome : ReadFault → Outcome
unread_outcome (read.Bad number section index field) =
    outcome.Invalid (record { number = number; section = section; index = index })
unread_outcome read.Memory = outcome.NoMemory

-- the outcome of a resolve whose declaration isn't valid
abbrev pub invalid_outcome : ValidFault → Outcome
invalid_outcome (valid.Bad number section index against cycle) =
    outcome.Invalid (record { number = number; section = section; index = index })
invalid_outcome valid.Memory = outcome.NoMemory

-- the declaration of a manifest, or the outcome for its fault; or memory ran out
abbrev pub JudgesBy : List ℕ → Result Decl Outcome → Type 0
JudgesBy bytes (Ok d) = Judges bytes (Ok d)
JudgesBy bytes (Err o) =
    (o ≡ outcome.NoMemory) ⊎ ((note : FaultNote) × (o ≡ outcome.Invalid note) × Judges bytes (Err note))

-- the end of a resolve by the manifest that was found under this URL; or memory ran out
abbrev pub EndsBy : List ℕ → List ℕ → Finish → Type 0
EndsBy url bytes end =
    ((judged : Result Decl FaultNote) × Judges bytes judged × (end ≡ resolved_by url judged))
    ⊎ (end ≡ finish.Other outcome.NoMemory)

-- ---- questions

-- what a runner is asked for this work; nothing, where the instance has no program
abbrev pub HasJob : Work → Option Job → Type 0
HasJob w None = w.runner ≡ None
HasJob w (Some job) = (runner : List ℕ) × (w.runner ≡ Some runner) × (job ≡ job_of w runner)

-- the outcome of a start by the runner's answer
abbrev pub launched_outcome : Launched → Outcome
launched_outcome launched.Running = outcome.Started
launched_outcome launched.Declined = outcome.Declined
launched_outcome launched.Failed = outcome.GateFailed

-- the outcome of a stop by the runner's answer; one that failed counts as a stop by force
abbrev pub halted_outcome : Halted → Outcome
halted_outcome halted.Stopped = outcome.Stopped
halted_outcome halted.Failed = outcome.Killed

-- ---- the whole work

-- the end is one that fits this kind of action, and a declaration that it brings is valid
pub record FitsAction (kind : ActKind) (end : Finish) : Type 0 where
  pub fitting : IsTrue (fits_kind kind end)
  pub valid : HasValid end

-- the work was done: what the gates were asked for it is in their log, if that is told, and a failure
-- in their count
pub record Did (manifests : Manifests) (w : Work) (kind : ActKind) (end : Finish)
    (old new : GatesView) : Type 0 where
  pub asked : List GateCall
  pub does : DoesWork manifests w kind end asked
  pub log : Grew old.log new.log asked
  pub counts : Counts end asked old.faults new.faults
