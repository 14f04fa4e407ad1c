-- Promised.
-- What the words of a run ask for, and which statuses they may end with.
use Rattle.std.specs.Prelude.{◌≡◌, ◌⊎◌, ℕ, List, Option, Ok}
use Rattle.cm_command.specs.declared.script.Script.{Script}
use Rattle.cm_call.specs.Calls.{words_of}
use Rattle.cm_program.specs.Stock.{IsScriptRefusal, LoadsScript, served_script}
use Rattle.cm_program.specs.Texts.{fault_line}
use Rattle.cm_program.specs.Written.{IsSaid, OfSome}
use Rattle.cm_call.specs.declared.call.Call.TheVariants.{Run, Check, Generate, Serve, Audit}
use Rattle.cm_call.specs.declared.call.RunOptions.{RunOptions}
use Rattle.cm_call.specs.declared.call.ServeOptions.{ServeOptions}
use Rattle.cm_call.specs.declared.call.Workload.{Workload}
use Rattle.cm_program.specs.declared.fault.ScriptRefusal.{ScriptRefusal}
use Rattle.cm_program.specs.declared.fault.ScriptRefusal.TheVariants as fault
use Rattle.cm_program.specs.declared.scripts.Stop.{Stop}
use Rattle.cm_program.specs.declared.scripts.Stop.TheVariants.{ReadFault, Refused, Memory}
use Rattle.cm_program.specs.declared.stock.LoadedScript.{LoadedScript}

-- the words are those of `run`
abbrev pub AsksRun : List (List ℕ) → Type 0
AsksRun words = (options : RunOptions) × (words_of words ≡ Ok (Run options))

-- the words are those of `check`
abbrev pub AsksCheck : List (List ℕ) → Type 0
AsksCheck words = words_of words ≡ Ok Check

-- the words are those of `audit`
abbrev pub AsksAudit : List (List ℕ) → Type 0
AsksAudit words = words_of words ≡ Ok Audit

-- the words are those of `generate`
abbrev pub AsksGenerate : List (List ℕ) → Type 0
AsksGenerate words = (workload : Workload) × (words_of words ≡ Ok (Generate workload))

-- the words are those of `serve`
abbrev pub AsksServe : List (List ℕ) → Type 0
AsksServe words = (options : ServeOptions) × (words_of words ≡ Ok (Serve options))

-- the words ask for the run of a script, whoever wrote it
abbrev pub AsksScript : List (List ℕ) → Type 0
AsksScript words = AsksRun words ⊎ AsksGenerate words

-- the words ask for what is made of the input
abbrev pub AsksInput : List (List ℕ) → Type 0
AsksInput words = AsksRun words ⊎ (AsksCheck words ⊎ AsksAudit words)

-- the words ask for something that is written on the output
abbrev pub AsksOutput : List (List ℕ) → Type 0
AsksOutput words = AsksInput words ⊎ AsksGenerate words

-- the words ask for something that is done over a realm
abbrev pub AsksRealm : List (List ℕ) → Type 0
AsksRealm words = AsksScript words ⊎ AsksServe words

-- the bytes that a source had left are refused, or some bytes are where it tells none; and the line that says
-- why is said on the error stream
module _ {E : Type 0} (written_of : E → Option (List ℕ)) (faults_of : E → ℕ) where
  -- the bytes that the source had left are refused, or some bytes are where the source doesn't tell
  -- them; and the error stream has the line that says why
  pub record IsRefused (left : Option (List ℕ)) (err_old err_new : E) : Type 0 where
    pub fault : ScriptRefusal
    pub faulty : OfSome (λ bytes. IsScriptRefusal bytes fault) left
    pub said : IsSaid written_of faults_of err_old err_new (fault_line fault)

-- P holds of some script: the one that the source had left, or one of some bytes where the source
-- doesn't tell them; or memory ran out before there was one, and then Idle holds
unfoldable pub RunsSome : (LoadedScript → Type 0) → Type 0 → ℕ → Option (List ℕ) → Type 0
RunsSome P Idle status left =
    ((served : LoadedScript) × (OfSome (λ bytes. LoadsScript bytes served) left × P served))
    ⊎ ((status ≡ 6) × Idle)

-- P holds of the script that these bytes are, if they are one
abbrev pub RunsAsServed : (LoadedScript → Type 0) → List ℕ → Type 0
RunsAsServed P bytes = (served : LoadedScript) → LoadsScript bytes served → P served

-- P holds of what this script asks for, where nothing of it is refused; and nothing was where the run
-- came to its end
pub record RunsOwn (P : LoadedScript → Type 0) (script : Script) (status : ℕ) : Type 0 where
  pub runs : (served : LoadedScript) → served_script script ≡ Ok served → P served
  pub is_served : (status ≡ 0) ⊎ (status ≡ 4) → (served : LoadedScript) × (served_script script ≡ Ok served)

-- the bytes are no script that can be run
pub data IsFaulty (bytes : List ℕ) : Type 0 where
  refused : (fault : ScriptRefusal) → IsScriptRefusal bytes fault → IsFaulty bytes
  unserved : ((served : LoadedScript) → LoadsScript bytes served → ⊥) → IsFaulty bytes

-- how a refusal stops a run
abbrev pub stop_of : ScriptRefusal → Stop
stop_of (fault.Unread line number at) = Refused (fault.Unread line number at)
stop_of (fault.Unserved line problem) = Refused (fault.Unserved line problem)
stop_of fault.Memory = Memory

-- why a run stopped before its script was performed
abbrev pub ScriptStops : Stop → Option (List ℕ) → Type 0
ScriptStops ReadFault left = Unit {0}
ScriptStops Memory left = Unit {0}
ScriptStops (Refused fault) left = OfSome (λ bytes. IsScriptRefusal bytes fault) left

-- a status that the program may end with where it refuses a script: 7, 3 or 6. When each of them comes
-- stands in other parts of the promise
abbrev pub IsRefusalStatus : ℕ → Type 0
IsRefusalStatus status = (status ≡ 7) ⊎ ((status ≡ 3) ⊎ (status ≡ 6))

-- a status that a script that was run may end with: 0, 4 or 6. When each of them comes stands in other
-- parts of the promise
abbrev pub IsScriptRun : ℕ → Type 0
IsScriptRun status = (status ≡ 0) ⊎ ((status ≡ 4) ⊎ (status ≡ 6))

-- a status that `run`, `environments` and `storage` may end with
abbrev pub IsScriptStatus : ℕ → Type 0
IsScriptStatus status = IsScriptRun status ⊎ ((status ≡ 3) ⊎ (status ≡ 7))

-- a status that `serve` may end with: 0, 5 or 6. When each of them comes stands in other parts of the
-- promise
abbrev pub IsServeStatus : ℕ → Type 0
IsServeStatus status = (status ≡ 0) ⊎ ((status ≡ 5) ⊎ (status ≡ 6))

-- a status that `check` and `audit` may end with
abbrev pub IsCheckStatus : ℕ → Type 0
IsCheckStatus status =
    (status ≡ 0) ⊎ ((status ≡ 1) ⊎ ((status ≡ 3) ⊎ ((status ≡ 4) ⊎ (status ≡ 6))))
