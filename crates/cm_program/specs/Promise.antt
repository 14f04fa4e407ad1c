-- Promised.
-- What the program promises, whatever its words are: one record, `Promise`, which the top call ensures, and a
-- record for each word, which it names at its end.
use Rattle.std.specs.Prelude.{◌≡◌, ◌≢◌, ◌⊎◌, ℕ, ◌+◌, ◌≤◌, List, [], length, map, Option, None, Ok, Err}
use Rattle.std.specs.Io.KnownBytes.{Appends, IsAtEnd, Keeps}
use Rattle.cm_io.specs.Doors.{IsOpenAt, DoorPlace}
use Rattle.cm_io.specs.Outside.{Rose}
use Rattle.cm_io.specs.declared.door.DoorCounts.{DoorCounts}
use Rattle.cm_io.specs.declared.sink.Sink as sink
use Rattle.cm_io.specs.declared.source.Source as source
use Rattle.cm_gate.specs.declared.asked.GateCall.{GateCall}
use Rattle.cm_call.specs.Calls.{words_of}
use Rattle.cm_call.specs.Generated.{script_of}
use Rattle.cm_call.specs.declared.call.Call.TheVariants as call
use Rattle.cm_call.specs.declared.call.RunOptions.{RunOptions}
use Rattle.cm_call.specs.declared.call.ServeOptions.{ServeOptions}
use Rattle.cm_call.specs.declared.call.WordsFault.TheVariants as fault
use Rattle.cm_call.specs.declared.call.Workload.{Workload}
use Rattle.cm_session.specs.Links.{LinkView}
use Rattle.cm_session.specs.Serving.{back_view}
use Rattle.cm_program.specs.Audits.{IsAudited, IsAuditTold}
use Rattle.cm_program.specs.Checks.{IsChecked, IsVerdictWritten}
use Rattle.cm_program.specs.Headline.{IsHistory, RunsNothing, RunsScript}
use Rattle.cm_program.specs.Run.{AsksGenerate, AsksInput, AsksOutput, AsksRealm, AsksScript, AsksServe}
use Rattle.cm_program.specs.Run.{IsCheckStatus, IsFaulty}
use Rattle.cm_program.specs.Run.{IsRefusalStatus, IsRefused, IsScriptRun, IsScriptStatus, IsServeStatus}
use Rattle.cm_program.specs.Run.{RunsAsServed, RunsOwn, RunsSome}
use Rattle.cm_program.specs.Sessions.{RunsSessions, served_frame, served_manifests}
use Rattle.cm_program.specs.Stock.{served_script}
use Rattle.cm_program.specs.Written.{AppendsPrefix, OfKnown, OfSome, SaysOnErr}
use Rattle.cm_program.specs.declared.ran.Ran.{Ran}
use Rattle.cm_program.specs.declared.stock.LoadedScript.{LoadedScript}
use Rattle.cm_call.specs.declared.call.Wanted.{Wanted}
use Rattle.cm_call.specs.declared.call.Wanted.TheVariants.{Summary}

-- what a run is given: its words, and its streams, its door and its gates as they are before the call
pub record Given (S K E D G : Type 0) : Type 0 where
  pub words : List (List ℕ)
  pub input : S
  pub out : K
  pub err : E
  pub door : D
  pub gates : List G

-- what came of a run: its streams as they are after the call, and what the call returned
pub record Came (S K E D L G : Type 0) : Type 0 where
  pub input : S
  pub out : K
  pub err : E
  pub ran : Ran D L G

-- what is told of source, output and error stream, door, links and gates, and what was given and came
module _ {S K E D L G : Type 0}
    (as_source : source.Ghosts S) (as_out : sink.Ghosts K) (as_err : sink.Ghosts E)
    (counts_of : D → DoorCounts) (place_of : D → DoorPlace) (view : L → LinkView)
    (log_of : G → Option (List GateCall)) (faults_of : G → ℕ)
    (was : Given S K E D G) (now : Came S K E D L G) where
  -- this script was run, and this is wanted of it
  abbrev pub RunsIt : Wanted → Option (List ℕ) → LoadedScript → Type 0
  RunsIt wanted folder served =
      RunsScript log_of faults_of wanted folder served was.gates now.ran.gates now.ran.book.entries
      now.ran.status (as_out.written was.out) (as_out.written now.out)

  -- nothing was run: the book is empty, and the gates are as they were
  abbrev pub Idles : Type 0
  Idles = RunsNothing now.ran.book.entries was.gates now.ran.gates

  -- `run`, `environments` and `storage`: the input is a script that is served, and the history, the text and
  -- the work are what its lanes make of it; or it is refused
  pub record OfRun (options : RunOptions) : Type 0 where
    -- it ends with 0, 3, 4, 6 or 7
    pub status : IsScriptStatus now.ran.status
    -- at 7 the bytes are refused for some fault, whose line was said; some bytes are, where none are told
    pub refused : now.ran.status ≡ 7
        → IsRefused as_err.written as_err.faults (as_source.left was.input) was.err now.err
    -- at 0 the input was read to its end
    pub read_out : now.ran.status ≡ 0 → IsAtEnd (as_source.left now.input)
    -- bytes that are no script that is served get 7, 3 or 6
    pub faulty : OfKnown (λ bytes. IsFaulty bytes → IsRefusalStatus now.ran.status) (as_source.left was.input)
    -- the headline: at 0, 4 and 6 this is the run of the script that is served, where the bytes are one
    pub headline : IsScriptRun now.ran.status
        → OfKnown (RunsAsServed (RunsIt options.wanted options.repository))
        (as_source.left was.input)
    -- the same of some script, also where the source tells nothing; or at 6 nothing was done
    pub some : IsScriptRun now.ran.status
        → RunsSome (RunsIt options.wanted options.repository)
        (Idles × Keeps (as_out.written was.out) (as_out.written now.out)) now.ran.status
        (as_source.left was.input)

  -- `check`: 0 and `valid`, or 1 and the first fault, or at 4 a prefix of that line; of all that the source
  -- had left, and of some bytes where it doesn't tell that
  pub record OfCheck : Type 0 where
    -- it ends with 0, 1, 3, 4 or 6
    pub status : IsCheckStatus now.ran.status
    -- at 0 the input was read to its end
    pub read_out : now.ran.status ≡ 0 → IsAtEnd (as_source.left now.input)
    -- at 0 the bytes are a valid manifest, and `valid` was written
    pub valid : now.ran.status ≡ 0
        → OfSome (IsChecked (Appends (as_out.written was.out) (as_out.written now.out)) 0)
        (as_source.left was.input)
    -- at 1 they are none, and the line of its first fault was written
    pub invalid : now.ran.status ≡ 1
        → OfSome (IsChecked (Appends (as_out.written was.out) (as_out.written now.out)) 1)
        (as_source.left was.input)
    -- at 4 a prefix of one of these lines was written
    pub told : now.ran.status ≡ 4
        → OfSome (IsVerdictWritten (AppendsPrefix (as_out.written was.out) (as_out.written now.out)))
        (as_source.left was.input)

  -- `audit`: 0 and that the journal is legal, or 1 and what comes first in it that isn't, or at 4 a prefix of
  -- that line; of all that the source had left, and of some bytes where it doesn't tell that
  pub record OfAudit : Type 0 where
    -- it ends with 0, 1, 3, 4 or 6
    pub status : IsCheckStatus now.ran.status
    -- at 0 the input was read to its end
    pub read_out : now.ran.status ≡ 0 → IsAtEnd (as_source.left now.input)
    -- at 0 the bytes are a legal journal, and the number of its entries was written
    pub legal : now.ran.status ≡ 0
        → OfSome (IsAudited (Appends (as_out.written was.out) (as_out.written now.out)) 0)
        (as_source.left was.input)
    -- at 1 they are none, and the line of what comes first that isn't legal was written
    pub illegal : now.ran.status ≡ 1
        → OfSome (IsAudited (Appends (as_out.written was.out) (as_out.written now.out)) 1)
        (as_source.left was.input)
    -- at 4 a prefix of one of these lines was written
    pub told : now.ran.status ≡ 4
        → OfSome (IsAuditTold (AppendsPrefix (as_out.written was.out) (as_out.written now.out)))
        (as_source.left was.input)

  -- `generate`: the workload's own script is run as any other, with no folder, and the line counts its
  -- answers; were it not served, nothing would be done
  pub record OfGenerate (w : Workload) : Type 0 where
    -- it ends with 0, 4 or 6
    pub status : IsScriptRun now.ran.status
    -- this is the run of the workload's script, which was served at 0 and 4
    pub runs : RunsOwn (RunsIt (Summary w.size) None) (script_of w.seed w.size) now.ran.status
    -- were its own script refused, nothing would have been done
    pub unmade : ((served : LoadedScript) → served_script (script_of w.seed w.size) ≡ Ok served → ⊥)
        → Idles × (now.out ≡ was.out)
    -- the input is as it was
    pub unread : now.input ≡ was.input

  -- `serve`: the history, and what came of each link; input and output are as they were
  pub record OfServe (o : ServeOptions) : Type 0 where
    pub status : IsServeStatus now.ran.status
    pub sessions : RunsSessions log_of faults_of view (served_frame o)
        (served_manifests o) o.workers was.gates
        now.ran.gates now.ran.book.entries (map (back_view view) now.ran.links) now.ran.status
    pub few : length now.ran.links ≤ o.sessions
    pub done : now.ran.status ≡ 0 → (length now.ran.links ≡ o.sessions)
        ⊎ Rose (counts_of was.door).closings (counts_of now.ran.door).closings
    -- at 0 peers could come to the socket that the words name, where the door tells where they may
    pub place : now.ran.status ≡ 0 → IsOpenAt o.socket (place_of now.ran.door)
    -- and at any status they could come nowhere else
    pub nowhere_else : (place_of now.ran.door ≡ place_of was.door) ⊎ IsOpenAt o.socket (place_of now.ran.door)
    pub untouched : (now.input ≡ was.input) × (now.out ≡ was.out)

  -- what the program promises of every run, whatever its words, its input and the outside are; the top
  -- call ensures it
  pub record Promise : Type 0 where
    -- 2 comes only where the words ask for nothing,
    pub usage : now.ran.status ≡ 2 → words_of was.words ≡ Err fault.Usage
    -- and there nothing else comes, unless memory ran out
    pub unusable : words_of was.words ≡ Err fault.Usage → (now.ran.status ≡ 2) ⊎ (now.ran.status ≡ 6)
    -- input and output are as they were there, whichever of the two comes;
    pub untouched : words_of was.words ≡ Err fault.Usage → (now.input ≡ was.input) × (now.out ≡ was.out)
    -- the input is as it was for all words that don't ask for what is made of it,
    pub unread : (AsksInput was.words → ⊥) → now.input ≡ was.input
    -- and the output for all that ask for nothing that is written there
    pub unwritten : (AsksOutput was.words → ⊥) → now.out ≡ was.out
    -- 3 comes only where the source failed in this run,
    pub read : now.ran.status ≡ 3 → Rose (as_source.faults was.input) (as_source.faults now.input)
    -- 4 only where the output failed,
    pub write : now.ran.status ≡ 4 → Rose (as_out.faults was.out) (as_out.faults now.out)
    -- 5 only where the door failed,
    pub door : now.ran.status ≡ 5 → Rose (counts_of was.door).faults (counts_of now.ran.door).faults
    -- and 0 only where the door never failed
    pub sound : now.ran.status ≡ 0 → (counts_of now.ran.door).faults ≡ (counts_of was.door).faults
    -- where the source failed, nothing comes but 3 and 6,
    pub heard : now.ran.status ≢ 3 → now.ran.status ≢ 6
        → as_source.faults now.input ≡ as_source.faults was.input
    -- and where the output failed, nothing but 4 and 6
    pub whole : now.ran.status ≢ 4 → now.ran.status ≢ 6 → as_out.faults now.out ≡ as_out.faults was.out
    -- a source that never fails didn't fail in this run
    pub quiet : as_source.quiet was.input → as_source.faults now.input ≡ as_source.faults was.input
    -- nothing is written on the output at 2, 3 and 7,
    pub silent : (now.ran.status ≡ 2) ⊎ ((now.ran.status ≡ 3) ⊎ (now.ran.status ≡ 7))
        → Keeps (as_out.written was.out) (as_out.written now.out)
    -- and at 6 only for the words of `run`, `environments`, `storage` and `generate`
    pub kept : (AsksScript was.words → ⊥) → now.ran.status ≡ 6
        → Keeps (as_out.written was.out) (as_out.written now.out)
    -- on the error stream stands the line of the status, where it has one
    pub err : SaysOnErr as_err.written as_err.faults was.err now.err now.ran.status
    -- the returned book is a legal history of some realm, keeps all laws, and each action has its end in it
    pub history : IsHistory now.ran.book.entries
    -- sixteen gates come back
    pub gates : length now.ran.gates ≡ 16
    -- nothing happened (the book is empty and the gates are as they were) at 2, 3 and 7,
    pub empty : (now.ran.status ≡ 2) ⊎ ((now.ran.status ≡ 3) ⊎ (now.ran.status ≡ 7)) → Idles
    -- for words that ask for no realm,
    pub other : (AsksRealm was.words → ⊥) → Idles
    -- and for words that read a script, where the bytes are none that is served
    pub unserved : (AsksGenerate was.words → ⊥) → (AsksServe was.words → ⊥)
        → OfKnown (λ bytes. IsFaulty bytes → Idles) (as_source.left was.input)
    -- as many links come back as the door gave;
    pub given : (counts_of now.ran.door).links ≡ (counts_of was.door).links + length now.ran.links
    -- without a service none comes, and the door is as it was
    pub unopened : (AsksServe was.words → ⊥) → (now.ran.links ≡ []) × (now.ran.door ≡ was.door)
    -- and more by the word
    pub of_run : (options : RunOptions) → words_of was.words ≡ Ok (call.Run options) → OfRun options
    pub of_check : words_of was.words ≡ Ok call.Check → OfCheck
    pub of_audit : words_of was.words ≡ Ok call.Audit → OfAudit
    pub of_generate : (w : Workload) → words_of was.words ≡ Ok (call.Generate w) → OfGenerate w
    pub of_serve : (o : ServeOptions) → words_of was.words ≡ Ok (call.Serve o) → OfServe o
