-- Inside.
-- What the program ends with: what came of its one run.
use Rattle.std.specs.Prelude.{◌≡◌, ℕ, List, Option}
use Rattle.cm_io.specs.Doors.{DoorPlace}
use Rattle.cm_io.specs.declared.door.DoorCounts.{DoorCounts}
use Rattle.cm_io.specs.declared.sink.Sink as sink
use Rattle.cm_io.specs.declared.source.Source as source
use Rattle.cm_gate.specs.declared.asked.GateCall.{GateCall}
use Rattle.cm_session.specs.Links.{LinkView}
use Rattle.cm_program.specs.Promise.{Given, Promise}
use Rattle.cm_program.specs.declared.ran.Ran.{Ran}

-- no stream had a fault before the run
pub record IsNew {S K E D G : Type 0}
    (as_source : source.Ghosts S) (as_out : sink.Ghosts K) (as_err : sink.Ghosts E)
    (was : Given S K E D G) : Type 0 where
  pub input : as_source.faults was.input ≡ 0
  pub out : as_out.faults was.out ≡ 0
  pub err : as_err.faults was.err ≡ 0

module _ {S K E D L G : Type 0}
    (as_source : source.Ghosts S) (as_out : sink.Ghosts K) (as_err : sink.Ghosts E)
    (counts_of : D → DoorCounts) (place_of : D → DoorPlace) (view : L → LinkView)
    (log_of : G → Option (List GateCall)) (faults_of : G → ℕ) where
  -- these words were run once, on streams without a fault, the promise was kept, and this came of it
  pub data IsRun (words : List (List ℕ)) (input : S) (out : K) (err : E) (ran : Ran D L G) : Type 0 where
    run_of : (was : Given S K E D G) → was.words ≡ words → IsNew as_source as_out as_err was
        → Promise as_source as_out as_err counts_of place_of view log_of faults_of was
        (record { input = input; out = out; err = err; ran = ran })
        → IsRun words input out err ran
