-- Inside.
-- What the functions that read a script promise.
use Rattle.std.specs.Prelude.{◌≡◌, ℕ, ◌+◌, ◌<◌, ◌≤◌, min, [], ◌∷◌, ◌++◌, length, codes}
use Rattle.std.specs.Prelude.{IsFalse, Some, None}
use Rattle.cm_names.specs.Prefixes.{IsLongestPrefix}
use Rattle.cm_command.specs.declared.fault.ScriptNumber.{ScriptNumber}
use Rattle.cm_command.specs.declared.fault.ScriptNumber.TheVariants as fault
use Rattle.cm_command.specs.declared.fault.ScriptFault.{ScriptFault}
use Rattle.cm_command.specs.declared.fault.ScriptFault.TheVariants as script_fault
use Rattle.cm_command.specs.declared.script.Block.{Block}
use Rattle.cm_command.specs.declared.script_reader.Draft.{Draft}
use Rattle.cm_command.specs.declared.script_reader.LineFault.{LineFault as Refused}
use Rattle.cm_command.specs.declared.script_reader.LineFault.TheVariants as refused
use Rattle.cm_command.specs.declared.command.CommandFault.{CommandFault}
use Rattle.cm_command.specs.declared.command.CommandFault.TheVariants as command_fault
use Rattle.cm_command.specs.Words.{IsUrlText}
use Rattle.cm_command.specs.Grammar.{LineBytes}
use Rattle.cm_command.specs.Scripts.{lines_of, line_limit, script_limit, is_blank, LineStartsWith, IsLane}
use Rattle.cm_command.specs.Scripts.{LineFault, no_draft, ReadsLines, Faults, FirstFault, blank, builtin}
use Rattle.cm_command.specs.Scripts.{root, sync, command, no_root, here}

-- what is answered for a line that is refused: its fault, or that memory ran out
abbrev pub IsLineFault : Draft → LineBytes → Refused → Type 0
IsLineFault d t (refused.Bad number at) = LineFault d t number at
IsLineFault d t refused.Memory = Unit {0}

-- the line is no header, no `sync` and not blank, so it should be a command
pub record IsOrdinaryLine (t : LineBytes) : Type 0 where
  pub stands : IsFalse (is_blank t)
  pub no_manifest : LineStartsWith t (codes "manifest ") → ⊥
  pub no_builtin : LineStartsWith t (codes "builtin ") → ⊥
  pub no_root : LineStartsWith t (codes "root ") → ⊥
  pub no_sync : t ≡ codes "sync" → ⊥

-- a line of a manifest's block was taken: it closes the block, or belongs to the manifest
pub data TakesInside : LineBytes → Block → Draft → Draft → Type 0 where
  ends_block : {b : Block} {d : Draft}
      → TakesInside (codes "%%") b d (record d { manifests = d.manifests ++ b ∷ [] })
  adds_line : {t : LineBytes} {b : Block} {d : Draft} → (t ≡ codes "%%" → ⊥)
      → TakesInside t b d (record d { block = Some (record b { bytes = b.bytes ++ (t ++ codes "\n") }) })

-- the line begins with the number of a lane; every number above 15 is given as 16
pub record StartsLane (t : LineBytes) (digits lane : ℕ) (rest : LineBytes) : Type 0 where
  pub number : ℕ
  pub is_lane : IsLane t number rest
  pub length_is : digits ≡ length is_lane.digits
  pub number_is : lane ≡ min number 16

-- the fault of a command that stands after so many bytes of its line
abbrev pub fault_behind : ℕ → CommandFault → Refused
fault_behind len (command_fault.BadCommand at) = refused.Bad fault.BadCommand (len + at)
fault_behind len command_fault.Memory = refused.Memory

-- the position that a command's fault tells
abbrev pub place_of : CommandFault → ℕ
place_of (command_fault.BadCommand at) = at
place_of command_fault.Memory = 0

-- the fault of a URL that stands after so many bytes of its line
abbrev pub IsUrlFault : ℕ → LineBytes → Refused → Type 0
IsUrlFault len t (refused.Bad number at) =
    (IsUrlText t → ⊥) × (number ≡ fault.BadCommand)
    × ((n : ℕ) × (at ≡ len + n) × IsLongestPrefix IsUrlText t n)
IsUrlFault len t refused.Memory = Unit {0}

-- the fault of a line of that length, which ends there: it or the script is too long
abbrev pub ExceedsLimit : ℕ → ℕ → ScriptNumber → Type 0
ExceedsLimit len end fault.LineTooLong = line_limit < len
ExceedsLimit len end fault.TooLarge = (len ≤ line_limit) × (script_limit < end)
ExceedsLimit len end _ = ⊥

-- the fault that shows only after all lines: a block that isn't closed, or no root; n is the number
-- after the last line
abbrev pub IsLastFault : Draft → ℕ → ScriptFault → Type 0
IsLastFault d n (script_fault.Bad line fault.UnclosedManifest at) =
    (b : Block) × (d.block ≡ Some b) × (line ≡ b.line) × (at ≡ 0)
IsLastFault d n (script_fault.Bad line fault.NoRoot at) =
    (d.block ≡ None) × (d.root ≡ None) × (line ≡ n) × (at ≡ 0)
IsLastFault d n (script_fault.Bad line _ at) = ⊥
IsLastFault d n script_fault.Memory = Unit {0}

-- the fault of a script whose line of that number has this fault
abbrev pub fault_at : ℕ → Refused → ScriptFault
fault_at n (refused.Bad number at) = script_fault.Bad n number at
fault_at n refused.Memory = script_fault.Memory

-- the fault of bytes that are no script
abbrev pub IsScriptFault : LineBytes → ScriptFault → Type 0
IsScriptFault bytes (script_fault.Bad line number at) = FirstFault bytes line number at
IsScriptFault bytes script_fault.Memory = ⊥

-- where a reading of a script stands: after line n - 1, with this draft, this rest is left, and what
-- it gives from here is what all bytes give
pub record Continuation (bytes : LineBytes) (n : ℕ) (d : Draft) (rest : LineBytes) : Type 0 where
  pub place : ℕ
  pub whole : place + length rest ≡ length bytes
  pub within : place ≤ script_limit
  pub early : n ≤ place + 1
  pub reads : (e : Draft) → ReadsLines (length bytes) place n d (lines_of rest) e
      → ReadsLines (length bytes) 0 1 no_draft (lines_of bytes) e
  pub faults : (m : ℕ) (number : ScriptNumber) (at : ℕ)
      → Faults (length bytes) place n d (lines_of rest) m number at → FirstFault bytes m number at
