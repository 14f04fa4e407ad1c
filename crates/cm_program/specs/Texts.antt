-- Promised.
-- The words that users see where a script is refused.
use Rattle.std.specs.Prelude.{ℕ, List, ◌++◌, codes, decimal}
use Rattle.cm_command.specs.FaultText as script
use Rattle.cm_command.specs.declared.fault.ScriptFault.TheVariants as script_fault
use Rattle.cm_program.specs.declared.fault.ScriptRefusal.{ScriptRefusal}
use Rattle.cm_program.specs.declared.fault.ScriptRefusal.TheVariants.{Unread, Unserved, Memory}
use Rattle.cm_program.specs.declared.fault.Problem.{Problem}
use Rattle.cm_program.specs.declared.fault.Problem.TheVariants.{BadManifestUrl, RepeatedManifest}

-- the number and the word of a problem with a script's own manifests
abbrev pub problem_text : Problem → List ℕ
problem_text BadManifestUrl = codes "77 bad-manifest-url"
problem_text RepeatedManifest = codes "78 repeated-manifest"

-- why a script is refused, as its user reads it: `line L: NUMBER WORD`, and at 70 ` at POSITION`
abbrev pub fault_text : ScriptRefusal → List ℕ
fault_text (Unread line number at) = script.fault_text (script_fault.Bad line number at)
fault_text (Unserved line problem) = codes "line " ++ (decimal line ++ (codes ": " ++ problem_text problem))
fault_text Memory = codes "out of memory"

-- the line on the error stream that says why a script is refused
abbrev pub fault_line : ScriptRefusal → List ℕ
fault_line fault = fault_text fault ++ codes "\n"
