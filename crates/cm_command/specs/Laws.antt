-- Inside.
-- Laws of scripts, as statements.
use Rattle.std.specs.Prelude.{◌≡◌, ℕ}
use Rattle.cm_command.specs.declared.fault.ScriptNumber.{ScriptNumber}
use Rattle.cm_command.specs.declared.script.Script.{Script}
use Rattle.cm_command.specs.Grammar.{LineBytes}
use Rattle.cm_command.specs.Scripts.{IsScript, FirstFault}

-- the same bytes are one script at most
abbrev pub TextsAreOneScript : Type 0
TextsAreOneScript = (bytes : LineBytes) (a b : Script) → IsScript bytes a → IsScript bytes b → a ≡ b

-- bytes that are a script have no fault, so a script is never refused by its grammar
abbrev pub ScriptsHaveNoFault : Type 0
ScriptsHaveNoFault =
    (bytes : LineBytes) (s : Script) (line : ℕ) (number : ScriptNumber) (at : ℕ)
    → IsScript bytes s → FirstFault bytes line number at → ⊥
