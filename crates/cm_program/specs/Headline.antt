-- Promised.
-- The headline: what is promised of the run of a script, whoever wrote it and whatever is printed of it.
use Rattle.std.specs.Prelude.{◌≡◌, ◌≢◌, ◌⊎◌, ℕ, ◌<◌, ◌≤◌, List, [], map, All, length, true}
use Rattle.std.specs.Prelude.{Option, Some, Err, slice_get}
use Rattle.std.specs.Io.KnownBytes.{Appends}
use Rattle.cm_world.specs.declared.answer.Refusal.TheVariants as refusal
use Rattle.cm_world.specs.declared.frame.Frame.{Frame}
use Rattle.cm_world.specs.declared.reply.Entry.{Entry}
use Rattle.cm_world.specs.World.{start}
use Rattle.cm_world.specs.Legal.{Legal}
use Rattle.cm_cache.specs.Keeping.{IsKeptNumber}
use Rattle.cm_command.specs.declared.script.Line.{Line}
use Rattle.cm_gate.specs.declared.asked.GateCall.{GateCall}
use Rattle.cm_laws.specs.Histories.{KeepsLaws}
use Rattle.cm_manager.specs.Turns.{own_entries}
use Rattle.cm_manager.specs.Closed.{HasEnds}
use Rattle.cm_manager.specs.Work.{Manifests, WorksWith}
use Rattle.cm_lanes.specs.Script.{AnsweredLine, answered_lines, ArePhases}
use Rattle.cm_audit.specs.Verdict.{IsLegalJournal, journal_limit}
use Rattle.cm_program.specs.Printed.{wanted_text}
use Rattle.cm_program.specs.Reported.{IsReport}
use Rattle.cm_program.specs.Written.{AppendsPrefix}
use Rattle.cm_program.specs.declared.stock.LoadedScript.{LoadedScript}
use Rattle.cm_call.specs.declared.call.Wanted.{Wanted}
use Rattle.cm_call.specs.declared.call.Wanted.TheVariants.{Answers}

-- where the manifests of a script's run are looked for: in its own blocks, and else by the gates, in
-- that folder if one is named
abbrev pub manifests_of : Option (List ℕ) → LoadedScript → Manifests
manifests_of folder served = record { repo = folder; blocks = served.repository }

-- the line's answer isn't one for lack of memory
abbrev pub AnsweredWithMemory : AnsweredLine → Type 0
AnsweredWithMemory a = a.result ≢ Err refusal.Memory

-- performing these lines in lanes makes this history: a legal one of a realm with that frame, in which
-- each lane's entries are those of its own lines in order, phase after phase
pub record MakesHistory
    (f : Frame) (phases : List (List Line)) (answered : List (List AnsweredLine)) (history : List Entry)
    : Type 0 where
  pub lines : map answered_lines answered ≡ phases
  pub legal : Legal (start f) history
  pub performed : ArePhases (λ c. f) answered [] history
  pub callers : All (λ (e : Entry). e.caller < 16) history

-- what holds of the history of every run: it keeps all laws, and each action that was begun has its
-- end
pub record EndsWell (f : Frame) (history : List Entry) : Type 0 where
  pub laws : KeepsLaws f history
  pub ends : HasEnds history

-- what every run leaves, whatever was asked: a legal history of some realm that ends well
pub record IsHistory (history : List Entry) : Type 0 where
  pub frame : Frame
  pub legal : Legal (start frame) history
  pub laws : EndsWell frame history

-- nothing was run: the history is empty, and the gates are as they were
abbrev pub RunsNothing : {G : Type 0} → List Entry → List G → List G → Type 0
RunsNothing history gates₀ gates₁ = (history ≡ []) × (gates₁ ≡ gates₀)

module _ {G : Type 0} (log_of : G → Option (List GateCall)) (faults_of : G → ℕ) where
  -- each gate was asked exactly what the entries of its own lane owe to the outside
  abbrev pub WorksEach : Manifests → List Entry → List G → List G → Type 0
  WorksEach manifests history gates₀ gates₁ =
      (k : ℕ) (g h : G) → slice_get gates₀ k ≡ Some g → slice_get gates₁ k ≡ Some h
      → WorksWith manifests (own_entries k history) (log_of g) (log_of h) (faults_of g) (faults_of h)

  -- the run of a script: its history, the work of its gates, the text that is wanted of it, and what
  -- was written of that
  pub record RunsScript
      (wanted : Wanted) (folder : Option (List ℕ)) (served : LoadedScript) (gates₀ gates₁ : List G)
      (history : List Entry) (status : ℕ) (out₀ out₁ : Option (List ℕ)) : Type 0 where
    pub answered : List (List AnsweredLine)
    pub makes : MakesHistory served.frame served.phases answered history
    pub laws : EndsWell served.frame history
    pub work : WorksEach (manifests_of folder served) history gates₀ gates₁
    -- so many of its routes and openings asked for a use whose answer was still there
    pub kept : ℕ
    pub counts : IsKeptNumber served.frame history kept
    -- the report on the tree at the end, where one is wanted
    pub report : List ℕ
    pub reported : IsReport wanted served.frame history report
    pub text : List ℕ
    pub prints : text ≡ wanted_text wanted served.frame answered history kept report
    -- at 0 all of it was written
    pub all : status ≡ 0 → Appends out₀ out₁ text
    -- at 0 and at 4 no line was answered for lack of memory
    pub had_memory : (status ≡ 0) ⊎ (status ≡ 4) → All (All AnsweredWithMemory) answered
    -- at 4 and 6 a prefix of it was written
    pub prefix : AppendsPrefix out₀ out₁ text
    -- at 0, with the journal, it is a legal journal of all entries, where it isn't too large
    pub legal : status ≡ 0 → wanted ≡ Answers true → length text ≤ journal_limit
        → IsLegalJournal text (length history)
