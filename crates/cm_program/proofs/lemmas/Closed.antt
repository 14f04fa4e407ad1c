-- That what came is a run's.
use Rattle.std.proofs.Common.{◌≡◌, ℕ, List, Option, refl}
use Rattle.cm_io.specs.Doors.{DoorPlace}
use Rattle.cm_io.specs.declared.door.DoorCounts.{DoorCounts}
use Rattle.cm_io.specs.declared.sink.Sink as sink
use Rattle.cm_io.specs.declared.source.Source as source
use Rattle.cm_gate.specs.declared.asked.GateCall.{GateCall}
use Rattle.cm_session.specs.Links.{LinkView}
use Rattle.cm_program.specs.Closing.{IsRun}
use Rattle.cm_program.specs.Promise.{Given, Came, Promise}

-- A run on streams without a fault that kept its promise is what came of one run of its words.
pub is_run : {S K E D L G : Type 0} (as_source : source.Ghosts S) (as_out : sink.Ghosts K) (as_err : sink.Ghosts E)
    (counts_of : D → DoorCounts) (place_of : D → DoorPlace) (view : L → LinkView) (log_of : G → Option (List GateCall))
    (faults_of : G → ℕ)
    (was : Given S K E D G) (now : Came S K E D L G)
    → Promise as_source as_out as_err counts_of place_of view log_of faults_of was now
    → as_source.faults was.input ≡ 0 → as_out.faults was.out ≡ 0 → as_err.faults was.err ≡ 0
    → IsRun as_source as_out as_err counts_of place_of view log_of faults_of was.words now.input now.out now.err now.ran
is_run as_source as_out as_err counts_of place_of view log_of faults_of was now kept input out err =
    IsRun.run_of was refl (record { input = input; out = out; err = err }) kept
