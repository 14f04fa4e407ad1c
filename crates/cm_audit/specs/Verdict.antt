-- Promised.
-- The verdict on a journal: that it is legal, or what comes first in it, an entry that isn't legal or a line
-- that isn't in the grammar.
use Rattle.std.specs.Prelude.{◌≡◌, ◌⊎◌, ℕ, ◌+◌, ◌<◌, ◌≤◌, min, List, [], ◌∷◌, ◌++◌, length, codes, decimal}
use Rattle.cm_world.specs.declared.event.Event.{Event}
use Rattle.cm_world.specs.declared.frame.Frame.{Frame}
use Rattle.cm_world.specs.declared.reply.Entry.{Entry}
use Rattle.cm_world.specs.World.{start}
use Rattle.cm_world.specs.Legal.{replay}
use Rattle.cm_command.specs.Scripts.{lines_of}
use Rattle.cm_reply.specs.Lists.{TextBytes}
use Rattle.cm_reply.specs.Lines.{IsEntryLine}
use Rattle.cm_audit.specs.declared.verdict.Audit.{Audit}
use Rattle.cm_audit.specs.declared.verdict.Audit.TheVariants.{Legal, Illegal, BadText}
use Rattle.cm_audit.specs.Journal.{Stage, before, told, ReadsAll, IsBad, HasNoRoot}
use Rattle.cm_audit.specs.Expected.{Expects}

-- ---- the limit

-- the most bytes that a journal may have, with all that is printed before it
abbrev pub journal_limit : ℕ
journal_limit = 268435456

-- how many bytes these lines have, each with its line feed
abbrev pub size_of : List TextBytes → ℕ
size_of [] = 0
size_of (t ∷ ts) = length t + 1 + size_of ts

-- how many of the bytes these first lines of them take; the last line of all may have no line feed
abbrev pub bytes_of : TextBytes → List TextBytes → ℕ
bytes_of bytes lines = min (length bytes) (size_of lines)

-- ---- the three verdicts

-- all lines are in the grammar, all entries are legal, and there are so many
pub record IsLegalJournal (bytes : TextBytes) (count : ℕ) : Type 0 where
  pub frame : Frame
  pub entries : List Entry
  pub reads : ReadsAll before (lines_of bytes) (told frame entries)
  pub short : length bytes ≤ journal_limit
  pub counts : count ≡ length entries

-- the first entry that isn't legal, by the number and the reply that stand in its line, and what is
-- expected there; all before it is in order and within the limit
pub record HasIllegal (bytes : TextBytes) (number : ℕ) (given expected : TextBytes) : Type 0 where
  pub prefix : List TextBytes
  pub here : TextBytes
  pub rest : List TextBytes
  pub lines : lines_of bytes ≡ prefix ++ here ∷ rest
  pub short : bytes_of bytes (prefix ++ here ∷ []) ≤ journal_limit
  pub frame : Frame
  pub entries : List Entry
  pub reads : ReadsAll before prefix (told frame entries)
  pub caller : ℕ
  pub event : Event
  pub line : IsEntryLine here number caller event given
  pub expects : Expects (replay (start frame) entries) (length entries + 1) number caller event given expected

-- what comes after these lines of a journal is wrong: nothing although the root hasn't come, a line
-- that passes the limit, or one that isn't in the grammar there
abbrev pub Fails : TextBytes → List TextBytes → Stage → List TextBytes → Type 0
Fails bytes prefix stage [] = HasNoRoot stage
Fails bytes prefix stage (t ∷ ts) = (journal_limit < bytes_of bytes (prefix ++ t ∷ [])) ⊎ IsBad stage t

-- the number of the first line that isn't in the grammar, counted from 1; one more than the last where
-- the journal ends too early
pub record HasBadText (bytes : TextBytes) (number : ℕ) : Type 0 where
  pub prefix : List TextBytes
  pub rest : List TextBytes
  pub lines : lines_of bytes ≡ prefix ++ rest
  pub short : bytes_of bytes prefix ≤ journal_limit
  pub stage : Stage
  pub reads : ReadsAll before prefix stage
  pub fails : Fails bytes prefix stage rest
  pub number_is : number ≡ length prefix + 1

-- the verdict of `audit` on these bytes
abbrev pub IsVerdict : TextBytes → Audit → Type 0
IsVerdict bytes (Legal count) = IsLegalJournal bytes count
IsVerdict bytes (Illegal number given expected) = HasIllegal bytes number given expected
IsVerdict bytes (BadText number) = HasBadText bytes number

-- ---- how it is written

-- the verdict as it is printed
abbrev pub verdict_text : Audit → TextBytes
verdict_text (Legal count) = codes "legal " ++ decimal count
verdict_text (Illegal number given expected) =
    codes "illegal " ++ (decimal number ++ (codes " given " ++ (given ++ (codes " expected " ++ expected))))
verdict_text (BadText number) = codes "bad-text " ++ decimal number
