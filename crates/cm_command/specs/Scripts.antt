-- Promised.
-- Scripts: their lines, the script that lines are, and the first fault of lines that are none.
use Rattle.std.specs.Prelude.{◌≡◌, ℕ, ◌+◌, ◌<◌, ◌≤◌, min, List, [], ◌∷◌, ◌++◌, length, codes, Bool, true}
use Rattle.std.specs.Prelude.{false, ◌==◌, cond, IsTrue, IsFalse, Contains, Some, None}
use Rattle.cm_names.specs.Prefixes.{IsLongestPrefix}
use Rattle.cm_world.specs.declared.frame.Builtin.{Builtin}
use Rattle.cm_command.specs.declared.fault.ScriptNumber.{ScriptNumber}
use Rattle.cm_command.specs.declared.fault.ScriptNumber.TheVariants as fault
use Rattle.cm_command.specs.declared.script.Block.{Block}
use Rattle.cm_command.specs.declared.script.Script.{Script}
use Rattle.cm_command.specs.declared.script_reader.Draft.{Draft}
use Rattle.cm_command.specs.Numbers.{IsNumberText}
use Rattle.cm_command.specs.Words.{IsUrlText}
use Rattle.cm_command.specs.Grammar.{LineBytes, CommandText, IsCommandText, BuiltinText, IsBuiltinText}

-- the lines with one more byte at the start of the first; where there is none, the byte is a line
abbrev pub in_prefix : ℕ → List LineBytes → List LineBytes
in_prefix byte [] = (byte ∷ []) ∷ []
in_prefix byte (line ∷ lines) = (byte ∷ line) ∷ lines

-- the lines of bytes: each line feed ends one, and what follows the last counts as a line where it
-- isn't empty
abbrev pub lines_of : LineBytes → List LineBytes
lines_of [] = []
lines_of (byte ∷ bytes) = cond (byte == 10) ([] ∷ lines_of bytes) (in_prefix byte (lines_of bytes))

-- ---- the limits

-- a line of a script or of a session may have so many bytes, without its line feed
abbrev pub line_limit : ℕ
line_limit = 65536

-- a script may have so many bytes
abbrev pub script_limit : ℕ
script_limit = 67108864

-- ---- what a line says

-- whether a line says nothing: it is empty, or begins with `#`
abbrev pub is_blank : LineBytes → Bool
is_blank [] = true
is_blank (byte ∷ bytes) = byte == 35

-- the line begins with this word
abbrev pub LineStartsWith : LineBytes → LineBytes → Type 0
LineStartsWith t word = (rest : LineBytes) × (t ≡ word ++ rest)

-- the line begins with the number of a lane and a space, and this rest follows
pub record IsLane (t : LineBytes) (lane : ℕ) (rest : LineBytes) : Type 0 where
  pub digits : LineBytes
  pub number : IsNumberText digits lane
  pub whole : t ≡ digits ++ (codes " " ++ rest)

-- the line is none of those without a lane, and doesn't begin with a number and a space
pub record IsNoLane (t : LineBytes) : Type 0 where
  pub stands : IsFalse (is_blank t)
  pub no_manifest : LineStartsWith t (codes "manifest ") → ⊥
  pub no_builtin : LineStartsWith t (codes "builtin ") → ⊥
  pub no_root : LineStartsWith t (codes "root ") → ⊥
  pub no_sync : t ≡ codes "sync" → ⊥
  pub no_lane : (lane : ℕ) (rest : LineBytes) → IsLane t lane rest → ⊥

-- ---- what a line does to the script that is read so far

-- one of these builtins has the same kind and name
abbrev pub IsRepeated : List Builtin → Builtin → Type 0
IsRepeated earlier b =
    (other : Builtin) × Contains earlier other × (other.kind ≡ b.kind) × (other.name ≡ b.name)

-- the n-th line of a script is in order, and brings what was read so far, the first draft, to the
-- second
pub data TakesScriptLine (n : ℕ) : LineBytes → Draft → Draft → Type 0 where
  closes : {d : Draft} {b : Block} → d.block ≡ Some b
      → TakesScriptLine n (codes "%%") d (record d { manifests = d.manifests ++ b ∷ []; block = None })
  inner : {d : Draft} {b : Block} {t : LineBytes} → d.block ≡ Some b → (t ≡ codes "%%" → ⊥)
      → TakesScriptLine n t d (record d { block = Some (record b { bytes = b.bytes ++ (t ++ codes "\n") }) })
  blank : {d : Draft} {t : LineBytes} → d.block ≡ None → IsTrue (is_blank t) → TakesScriptLine n t d d
  opens : {d : Draft} {url : LineBytes} → d.block ≡ None → IsFalse d.begun → IsUrlText url
      → TakesScriptLine n (codes "manifest " ++ url) d
      (record d { block = Some (record { line = n; url = url; bytes = [] }) })
  builtin : {d : Draft} {t : LineBytes} {b : Builtin} → d.block ≡ None → IsFalse d.begun → BuiltinText t b
      → (IsRepeated d.builtins b → ⊥)
      → TakesScriptLine n (codes "builtin " ++ t) d (record d { builtins = d.builtins ++ b ∷ [] })
  root : {d : Draft} {url : LineBytes} → d.block ≡ None → IsFalse d.begun → d.root ≡ None → IsUrlText url
      → TakesScriptLine n (codes "root " ++ url) d (record d { root = Some url })
  sync : {d : Draft} {r : LineBytes} → d.block ≡ None → d.root ≡ Some r
      → TakesScriptLine n (codes "sync") d (record d {
        phases = d.phases ++ d.phase ∷ [];
        phase =
            [];
        begun = true;
      })
  command : {d : Draft} {r t rest : LineBytes} {lane : ℕ} {c : _} → d.block ≡ None → d.root ≡ Some r
      → IsLane t lane rest → lane ≤ 15 → CommandText rest c
      → TakesScriptLine n t d (record d {
        phase = d.phase ++ record { line = n; lane = lane; command = c } ∷ [];
        begun = true;
      })

-- the fault of a line after what was read so far, and its position in the line
pub data LineFault (d : Draft) : LineBytes → ScriptNumber → ℕ → Type 0 where
  late_manifest : {t : LineBytes} → d.block ≡ None → IsTrue d.begun → LineStartsWith t (codes "manifest ")
      → LineFault d t fault.BadCommand 0
  late_builtin : {t : LineBytes} → d.block ≡ None → IsTrue d.begun → LineStartsWith t (codes "builtin ")
      → LineFault d t fault.BadCommand 0
  late_root : {t : LineBytes} → d.block ≡ None → IsTrue d.begun → LineStartsWith t (codes "root ")
      → LineFault d t fault.BadCommand 0
  second_root : {t r : LineBytes} → d.block ≡ None → d.root ≡ Some r → LineStartsWith t (codes "root ")
      → LineFault d t fault.BadCommand 0
  bad_manifest : {t : LineBytes} {at : ℕ} → d.block ≡ None → IsFalse d.begun → (IsUrlText t → ⊥)
      → IsLongestPrefix IsUrlText t at → LineFault d (codes "manifest " ++ t) fault.BadCommand (9 + at)
  bad_builtin : {t : LineBytes} {at : ℕ} → d.block ≡ None → IsFalse d.begun → (IsBuiltinText t → ⊥)
      → IsLongestPrefix IsBuiltinText t at → LineFault d (codes "builtin " ++ t) fault.BadCommand (8 + at)
  bad_root : {t : LineBytes} {at : ℕ} → d.block ≡ None → IsFalse d.begun → d.root ≡ None → (IsUrlText t → ⊥)
      → IsLongestPrefix IsUrlText t at → LineFault d (codes "root " ++ t) fault.BadCommand (5 + at)
  repeated : {t : LineBytes} {b : Builtin} → d.block ≡ None → IsFalse d.begun → BuiltinText t b
      → IsRepeated d.builtins b → LineFault d (codes "builtin " ++ t) fault.BadCommand 0
  early_sync : d.block ≡ None → d.root ≡ None → LineFault d (codes "sync") fault.NoRoot 0
  bad_lane : {t : LineBytes} → d.block ≡ None → IsNoLane t → LineFault d t fault.BadLane 0
  too_many : {t rest : LineBytes} {lane : ℕ} → d.block ≡ None → IsLane t lane rest → 15 < lane
      → LineFault d t fault.TooManyLanes 0
  no_root : {t rest : LineBytes} {lane : ℕ} → d.block ≡ None → IsLane t lane rest → lane ≤ 15 → d.root ≡ None
      → LineFault d t fault.NoRoot 0
  bad_command : {t rest r : LineBytes} {lane at : ℕ} (way : IsLane t lane rest) → d.block ≡ None → lane ≤ 15
      → d.root ≡ Some r → (IsCommandText rest → ⊥) → IsLongestPrefix IsCommandText rest at
      → LineFault d t fault.BadCommand (length way.digits + 1 + at)

-- what is read of a script before its first line
abbrev pub no_draft : Draft
no_draft = record {
  manifests = [];
  builtins = [];
  root = None;
  phases = [];
  phase = [];
  begun = false;
  block = None;
}

-- where a line ends that begins at this place of so many bytes, with its line feed; the last line may
-- have none
abbrev pub end_of : ℕ → ℕ → LineBytes → ℕ
end_of size place t = min size (place + length t + 1)

-- the line, and the script up to its end, are within the limits
pub record Fits (size place : ℕ) (t : LineBytes) : Type 0 where
  pub line : length t ≤ line_limit
  pub script : end_of size place t ≤ script_limit

-- these lines, the first of which is the n-th and begins at that place, bring the first draft to the
-- second
pub data ReadsLines (size : ℕ) : ℕ → ℕ → Draft → List LineBytes → Draft → Type 0 where
  no_more : {place n : ℕ} {d : Draft} → ReadsLines size place n d [] d
  one_more : {place n : ℕ} {t : LineBytes} {ts : List LineBytes} {d e f : Draft} → Fits size place t
      → TakesScriptLine n t d e
      → ReadsLines size (end_of size place t) (n + 1) e ts f → ReadsLines size place n d (t ∷ ts) f

-- the first fault of these lines: the number of its line, what it is, and its position in the line
pub data Faults (size : ℕ) : ℕ → ℕ → Draft → List LineBytes → ℕ → ScriptNumber → ℕ → Type 0 where
  too_long : {place n : ℕ} {d : Draft} {t : LineBytes} {ts : List LineBytes} → line_limit < length t
      → Faults size place n d (t ∷ ts) n fault.LineTooLong 0
  too_large : {place n : ℕ} {d : Draft} {t : LineBytes} {ts : List LineBytes} → length t ≤ line_limit
      → script_limit < end_of size place t → Faults size place n d (t ∷ ts) n fault.TooLarge 0
  here : {place n at : ℕ} {d : Draft} {t : LineBytes} {ts : List LineBytes} {number : ScriptNumber}
      → Fits size place t
      → LineFault d t number at → Faults size place n d (t ∷ ts) n number at
  later : {place n m at : ℕ} {d e : Draft} {t : LineBytes} {ts : List LineBytes} {number : ScriptNumber}
      → Fits size place t → TakesScriptLine n t d e
      → Faults size (end_of size place t) (n + 1) e ts m number at
      → Faults size place n d (t ∷ ts) m number at
  unclosed : {place n : ℕ} {d : Draft} {b : Block} → d.block ≡ Some b
      → Faults size place n d [] b.line fault.UnclosedManifest 0
  rootless : {place n : ℕ} {d : Draft} → d.block ≡ None → d.root ≡ None
      → Faults size place n d [] n fault.NoRoot 0

-- all lines have come: the draft is this script, once its last phase is closed
pub record IsWhole (d : Draft) (s : Script) : Type 0 where
  pub closed : d.block ≡ None
  pub manifests : s.manifests ≡ d.manifests
  pub builtins : s.builtins ≡ d.builtins
  pub root : d.root ≡ Some s.root
  pub phases : s.phases ≡ d.phases ++ d.phase ∷ []

-- the bytes are this script: all lines are in order, no block is open, and there is a root
pub record IsScript (bytes : LineBytes) (s : Script) : Type 0 where
  pub draft : Draft
  pub reads : ReadsLines (length bytes) 0 1 no_draft (lines_of bytes) draft
  pub whole : IsWhole draft s

-- the first fault of bytes that are no script: the number of its line, what it is, and its position in
-- the line
abbrev pub FirstFault : LineBytes → ℕ → ScriptNumber → ℕ → Type 0
FirstFault bytes line number at = Faults (length bytes) 0 1 no_draft (lines_of bytes) line number at
