-- What is promised of a run is so of one that is the same.
use Rattle.std.proofs.Common.{◌≡◌, ℕ, List, Option, sym, subst}
use Rattle.cm_io.specs.Doors.{DoorPlace}
use Rattle.cm_io.specs.declared.door.DoorCounts.{DoorCounts}
use Rattle.cm_io.specs.declared.sink.Sink as sink
use Rattle.cm_io.specs.declared.source.Source as source
use Rattle.cm_gate.specs.declared.asked.GateCall.{GateCall}
use Rattle.cm_session.specs.Links.{LinkView}
use Rattle.cm_program.specs.Promise.{Given, Promise}
use Rattle.cm_program.specs.declared.ran.Ran.{Ran}

module _ {S K E D L G : Type 0}
    {as_source : source.Ghosts S} {as_out : sink.Ghosts K} {as_err : sink.Ghosts E}
    {counts_of : D → DoorCounts} {place_of : D → DoorPlace} {view : L → LinkView}
    {log_of : G → Option (List GateCall)} {faults_of : G → ℕ}
    {was : Given S K E D G} {input : S} {out : K} {err : E} where
  -- A promise that was kept by what a run returned is kept by what is the same.
  pub handed_on : (ran made : Ran D L G) → ran ≡ made
      → Promise as_source as_out as_err counts_of place_of view log_of faults_of was
      (record { input = input; out = out; err = err; ran = made })
      → Promise as_source as_out as_err counts_of place_of view log_of faults_of was
      (record { input = input; out = out; err = err; ran = ran })
  handed_on ran made same kept =
      subst (λ (r : Ran D L G). Promise as_source as_out as_err counts_of place_of view log_of faults_of was
      (record { input = input; out = out; err = err; ran = r })) (sym same) kept
