-- Inside.
-- When a run is complete: which statuses are left where nothing failed, and what status 0 says of each
-- line.
use Rattle.std.specs.Prelude.{◌≡◌, ◌⊎◌, ℕ, List, All, length, Option, None, Some, Ok}
use Rattle.std.specs.Io.KnownBytes.{Appends, IsAtEnd}
use Rattle.cm_io.specs.Doors.{DoorPlace}
use Rattle.cm_io.specs.Outside.{Rose}
use Rattle.cm_io.specs.declared.door.DoorCounts.{DoorCounts}
use Rattle.cm_io.specs.declared.sink.Sink as sink
use Rattle.cm_io.specs.declared.source.Source as source
use Rattle.cm_gate.specs.declared.asked.GateCall.{GateCall}
use Rattle.cm_call.specs.Calls.{words_of}
use Rattle.cm_call.specs.CallsInside.{IsServing}
use Rattle.cm_call.specs.declared.call.Call.TheVariants as call
use Rattle.cm_call.specs.declared.call.RunOptions.{RunOptions}
use Rattle.cm_call.specs.declared.call.ServeOptions.{ServeOptions}
use Rattle.cm_call.specs.declared.call.Workload.{Workload}
use Rattle.cm_session.specs.Links.{LinkView}
use Rattle.cm_program.specs.Headline.{AnsweredWithMemory}
use Rattle.cm_program.specs.Promise.{Given, Came, Promise, RunsIt, OfServe}
use Rattle.cm_program.specs.Stock.{IsScriptRefusal, LoadsScript}
use Rattle.cm_program.specs.Unfailing.{AreSound, AreUnfailing, AreUnfailingSats}
use Rattle.cm_program.specs.declared.fault.ScriptRefusal.{ScriptRefusal}
use Rattle.cm_program.specs.declared.stock.LoadedScript.{LoadedScript}
use Rattle.cm_call.specs.declared.call.Wanted.{Wanted}
use Rattle.cm_call.specs.declared.call.Wanted.TheVariants.{Summary}

-- the bytes are known, and a script without a fault
pub record AreFaultless (left : Option (List ℕ)) : Type 0 where
  pub bytes : List ℕ
  pub known : left ≡ Some bytes
  pub none : (fault : ScriptRefusal) → IsScriptRefusal bytes fault → ⊥

-- the run was done, or memory ran out
abbrev pub IsDone : ℕ → Type 0
IsDone status = (status ≡ 0) ⊎ (status ≡ 6)

-- what is told of source, output and error stream, door, links and gates, and what was given and came
module _ {S K E D L G : Type 0}
    (as_source : source.Ghosts S) (as_out : sink.Ghosts K) (as_err : sink.Ghosts E)
    (counts_of : D → DoorCounts) (place_of : D → DoorPlace) (view : L → LinkView)
    (log_of : G → Option (List GateCall)) (faults_of : G → ℕ)
    (was : Given S K E D G) (now : Came S K E D L G) where
  -- neither the input nor the output nor the door failed in this run
  pub record FailsNowhere : Type 0 where
    pub input : Rose (as_source.faults was.input) (as_source.faults now.input) → ⊥
    pub out : Rose (as_out.faults was.out) (as_out.faults now.out) → ⊥
    pub door : Rose (counts_of was.door).faults (counts_of now.ran.door).faults → ⊥

  -- no gate failed in this run
  abbrev pub NoGateCountRose : Type 0
  NoGateCountRose = AreSound faults_of was.gates now.ran.gates

  -- each line of the script has its answer, none of them for lack of memory, and all of the text was
  -- written; where no gate failed, no answer names a failed gate or a stop by force
  pub record AnswersAll (wanted : Wanted) (folder : Option (List ℕ)) (served : LoadedScript) : Type 0 where
    pub runs : RunsIt as_source as_out as_err counts_of place_of view log_of faults_of was now
        wanted folder served
    pub written : Appends (as_out.written was.out) (as_out.written now.out) runs.text
    pub had_memory : All (All AnsweredWithMemory) runs.answered
    pub unfailing : NoGateCountRose → AreUnfailing runs.answered

  -- sessions were served; where no gate failed, no answer names a failed gate or a stop by force
  pub record AnswersLinks (o : ServeOptions) : Type 0 where
    pub serves : OfServe as_source as_out as_err counts_of place_of view log_of faults_of was now o
    pub unfailing : NoGateCountRose → AreUnfailingSats serves.sessions.sats

  -- what a run that kept its promise is, where nothing failed and, at status 0, for each line
  pub record IsComplete : Type 0 where
    -- where nothing failed, the words of `run` and of the reports are done for bytes without a fault,
    pub run : (o : RunOptions) → words_of was.words ≡ Ok (call.Run o)
        → AreFaultless (as_source.left was.input) → FailsNowhere → IsDone now.ran.status
    -- those of `check` are done or find a fault,
    pub check : words_of was.words ≡ Ok call.Check → FailsNowhere
        → IsDone now.ran.status ⊎ (now.ran.status ≡ 1)
    -- those of `audit` are done or find what isn't legal,
    pub audit : words_of was.words ≡ Ok call.Audit → FailsNowhere
        → IsDone now.ran.status ⊎ (now.ran.status ≡ 1)
    -- and those of `generate` and `serve` are done
    pub generate : (w : Workload) → words_of was.words ≡ Ok (call.Generate w)
        → FailsNowhere → IsDone now.ran.status
    pub serve : (o : ServeOptions) → words_of was.words ≡ Ok (call.Serve o)
        → FailsNowhere → IsDone now.ran.status
    -- 0 says that the input was read to its end
    pub read_out : (o : RunOptions) → words_of was.words ≡ Ok (call.Run o) → now.ran.status ≡ 0
        → IsAtEnd (as_source.left now.input)
    pub checked_out : words_of was.words ≡ Ok call.Check → now.ran.status ≡ 0
        → IsAtEnd (as_source.left now.input)
    pub audited_out : words_of was.words ≡ Ok call.Audit → now.ran.status ≡ 0
        → IsAtEnd (as_source.left now.input)
    -- 0 says that each line of the script that was left is answered
    pub lines : (o : RunOptions) → words_of was.words ≡ Ok (call.Run o) → now.ran.status ≡ 0
        → (bytes : List ℕ) (served : LoadedScript) → as_source.left was.input ≡ Some bytes
        → LoadsScript bytes served
        → AnswersAll o.wanted o.repository served
    -- and each line of the workload's script
    pub own_lines : (w : Workload) → words_of was.words ≡ Ok (call.Generate w) → now.ran.status ≡ 0
        → (served : LoadedScript) × AnswersAll (Summary w.size) None served
    -- and whatever the status, what clients are answered
    pub links : (o : ServeOptions) → words_of was.words ≡ Ok (call.Serve o) → IsServing o → AnswersLinks o
    -- a source that never fails, and gates that never do, leave nothing to ask of them
    pub quiet : as_source.quiet was.input → as_source.faults was.input ≡ 0
        → Rose (as_source.faults was.input) (as_source.faults now.input) → ⊥
    pub quiet_gates : ((g : G) → faults_of g ≡ 0) → NoGateCountRose

  -- whatever run of sixteen gates kept the promise is complete
  abbrev pub Completes : Type 0
  Completes = length was.gates ≡ 16
      → Promise as_source as_out as_err counts_of place_of view log_of faults_of was now → IsComplete
