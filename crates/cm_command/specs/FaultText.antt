-- Promised.
-- How the faults of scripts are printed.
use Rattle.std.specs.Prelude.{ℕ, List, ◌++◌, codes, decimal}
use Rattle.cm_command.specs.declared.fault.ScriptNumber.{ScriptNumber}
use Rattle.cm_command.specs.declared.fault.ScriptNumber.TheVariants.{BadCommand, BadLane, NoRoot}
use Rattle.cm_command.specs.declared.fault.ScriptNumber.TheVariants.{UnclosedManifest, TooManyLanes}
use Rattle.cm_command.specs.declared.fault.ScriptNumber.TheVariants.{LineTooLong, TooLarge}
use Rattle.cm_command.specs.declared.fault.ScriptFault.{ScriptFault}
use Rattle.cm_command.specs.declared.fault.ScriptFault.TheVariants.{Bad, Memory}

-- the number of a script's fault
abbrev pub number_of : ScriptNumber → ℕ
number_of BadCommand = 70
number_of BadLane = 71
number_of NoRoot = 72
number_of UnclosedManifest = 73
number_of TooManyLanes = 74
number_of LineTooLong = 75
number_of TooLarge = 76

-- the word of a script's fault
abbrev pub fault_word : ScriptNumber → List ℕ
fault_word BadCommand = codes "bad-command"
fault_word BadLane = codes "bad-lane"
fault_word NoRoot = codes "no-root"
fault_word UnclosedManifest = codes "unclosed-manifest"
fault_word TooManyLanes = codes "too-many-lanes"
fault_word LineTooLong = codes "line-too-long"
fault_word TooLarge = codes "too-large"

-- the position in the line, which is printed for a bad command alone
abbrev pub position_text : ScriptNumber → ℕ → List ℕ
position_text BadCommand at = codes " at " ++ decimal at
position_text _ at = codes ""

-- a script's fault as it is printed: `line L: NUMBER WORD`, and ` at POSITION` for a bad command
abbrev pub fault_text : ScriptFault → List ℕ
fault_text (Bad line number at) =
    codes "line " ++ decimal line ++ codes ": " ++ decimal (number_of number) ++ codes " "
    ++ fault_word number ++ position_text number at
fault_text Memory = codes "out of memory"
