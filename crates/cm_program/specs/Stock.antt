-- Promised.
-- What a script asks for: the frame of its realm, its own manifests and its lines.
use Rattle.std.specs.Prelude.{◌≡◌, ℕ, List, [], ◌∷◌, Result, Ok, Err}
use Rattle.cm_names.specs.Steps.{◌>>=◌}
use Rattle.cm_repo.specs.Blocks.{Blocks, added}
use Rattle.cm_repo.specs.declared.fault.RepoFault.{RepoFault}
use Rattle.cm_repo.specs.declared.fault.RepoFault.TheVariants as repo
use Rattle.cm_world.specs.declared.frame.Frame.{Frame}
use Rattle.cm_world.specs.declared.frame.Limits.{Limits}
use Rattle.cm_command.specs.Scripts as scripts
use Rattle.cm_command.specs.declared.script.Block.{Block}
use Rattle.cm_command.specs.declared.script.Script.{Script}
use Rattle.cm_program.specs.Reading.{ReadOutcome, bad}
use Rattle.cm_program.specs.declared.fault.ScriptRefusal.{ScriptRefusal}
use Rattle.cm_program.specs.declared.fault.ScriptRefusal.TheVariants.{Unread, Unserved, Memory}
use Rattle.cm_program.specs.declared.fault.Problem.TheVariants.{BadManifestUrl, RepeatedManifest}
use Rattle.cm_program.specs.declared.stock.LoadedScript.{LoadedScript}

-- how many instances the realm of every run may have, and how many entries its history
abbrev pub limits : Limits
limits = record { rows = 65536; entries = 4194304 }

-- what the realm of a script is made with
abbrev pub frame_of : Script → Frame
frame_of script = record { root = script.root; builtins = script.builtins; limits = limits }

-- the script's own manifests after one was added at this line, or why the script is refused there
abbrev pub accepted : ℕ → Result Blocks RepoFault → ReadOutcome Blocks
accepted line (Ok blocks) = Ok blocks
accepted line (Err repo.BadUrl) = Err (bad line BadManifestUrl)
accepted line (Err repo.NoFragment) = Err (bad line BadManifestUrl)
accepted line (Err repo.Repeated) = Err (bad line RepeatedManifest)
accepted line (Err repo.Memory) = Err Memory

-- the script's own manifests with one more, or why the script is refused
abbrev pub stocked : Blocks → Block → ReadOutcome Blocks
stocked old block = accepted block.line (added old block.url block.bytes)

-- the script's own manifests with all of these, or the first that is refused
abbrev pub stock_of : Blocks → List Block → ReadOutcome Blocks
stock_of old [] = Ok old
stock_of old (block ∷ blocks) = stocked old block >>= λ new. stock_of new blocks

-- what a script asks for, or its first manifest that is refused
unfoldable pub served_script : Script → ReadOutcome LoadedScript
served_script script = do
  repository ← stock_of [] script.manifests
  Ok (record { repository = repository; frame = frame_of script; phases = script.phases })

-- the bytes are a script without a fault, and this is what it asks for
pub record LoadsScript (bytes : List ℕ) (served : LoadedScript) : Type 0 where
  pub script : Script
  pub reads : scripts.IsScript bytes script
  pub asks : served_script script ≡ Ok served

-- the bytes are a script by their grammar, and it is refused for this
pub record RefusesScript (bytes : List ℕ) (fault : ScriptRefusal) : Type 0 where
  pub script : Script
  pub reads : scripts.IsScript bytes script
  pub refused : served_script script ≡ Err fault

-- why the bytes are refused: they are no script, or they are one that is refused
abbrev pub IsScriptRefusal : List ℕ → ScriptRefusal → Type 0
IsScriptRefusal bytes (Unread line number at) = scripts.FirstFault bytes line number at
IsScriptRefusal bytes (Unserved line problem) = RefusesScript bytes (Unserved line problem)
IsScriptRefusal bytes Memory = ⊥
