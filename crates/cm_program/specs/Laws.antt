-- Inside.
-- Laws of scripts that are served, and of runs.
use Rattle.std.specs.Prelude.{◌≡◌, ℕ, List, Option}
use Rattle.cm_io.specs.Doors.{DoorPlace}
use Rattle.cm_io.specs.declared.door.DoorCounts.{DoorCounts}
use Rattle.cm_io.specs.declared.sink.Sink as sink
use Rattle.cm_io.specs.declared.source.Source as source
use Rattle.cm_gate.specs.declared.asked.GateCall.{GateCall}
use Rattle.cm_session.specs.Links.{LinkView}
use Rattle.cm_program.specs.Complete.{Completes}
use Rattle.cm_program.specs.Promise.{Given, Came}
use Rattle.cm_program.specs.Run.{IsFaulty}
use Rattle.cm_program.specs.Stock.{LoadsScript}
use Rattle.cm_program.specs.declared.stock.LoadedScript.{LoadedScript}

-- bytes that are a script without a fault aren't refused
abbrev pub ServedAreNotRefused : Type 0
ServedAreNotRefused = (bytes : List ℕ) (served : LoadedScript) → LoadsScript bytes served → IsFaulty bytes → ⊥

-- the same bytes ask for one thing at most
abbrev pub BytesAskForOne : Type 0
BytesAskForOne = (bytes : List ℕ) (a b : LoadedScript) → LoadsScript bytes a → LoadsScript bytes b → a ≡ b

-- every run that kept its promise is complete
abbrev pub RunsAreComplete : {S K E D L G : Type 0} → source.Ghosts S → sink.Ghosts K → sink.Ghosts E
    → (D → DoorCounts) → (D → DoorPlace) → (L → LinkView) → (G → Option (List GateCall)) → (G → ℕ) → Type 0
RunsAreComplete {S} {K} {E} {D} {L} {G} as_source as_out as_err counts_of place_of view log_of faults_of =
    (was : Given S K E D G) (now : Came S K E D L G)
    → Completes as_source as_out as_err counts_of place_of view log_of faults_of was now
