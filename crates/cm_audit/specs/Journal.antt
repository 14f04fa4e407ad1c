-- Promised.
-- Where the reading of a journal stands after some of its lines, and which line leads on.
use Rattle.std.specs.Prelude.{◌≡◌, ℕ, ◌+◌, ◌-◌, ◌^◌, List, [], ◌∷◌, ◌++◌, length, codes}
use Rattle.cm_world.specs.declared.frame.Builtin.{Builtin}
use Rattle.cm_world.specs.declared.frame.Frame.{Frame}
use Rattle.cm_world.specs.declared.event.Event.{Event}
use Rattle.cm_world.specs.declared.reply.Entry.{Entry}
use Rattle.cm_world.specs.World.{start}
use Rattle.cm_world.specs.Legal.{IsStep, replay}
use Rattle.cm_command.specs.Words.{IsUrlText}
use Rattle.cm_reply.specs.Lists.{TextBytes}
use Rattle.cm_reply.specs.Journal.{builtin_text}
use Rattle.cm_reply.specs.Replies.{replied_text}
use Rattle.cm_reply.specs.Legible.{IsLegibleBuiltin}
use Rattle.cm_reply.specs.Lines.{IsEntryLine}

-- ---- the lines before the entries

-- the line that begins a journal; what a program printed before it is skipped
abbrev pub journal_line : TextBytes
journal_line = codes "journal"

-- the line that tells the URL of the root
abbrev pub root_text : TextBytes → TextBytes
root_text url = codes "root " ++ url

-- what the entries are replayed from: the journal's root and builtins, with as many instances as every
-- run may have, and more entries than a journal has room for
abbrev pub frame_of : List Builtin → TextBytes → Frame
frame_of builtins root =
    record { root = root; builtins = builtins; limits = record { rows = 65536; entries = 2 ^ 64 - 1 } }

-- ---- from line to line

-- where the reading stands: before the line `journal`, after it and the lines of some builtins, or
-- after the line of the root and those of some entries
pub data Stage : Type 0 where
  before : Stage
  head : List Builtin → Stage
  told : Frame → List Entry → Stage

-- the line is in the grammar at this stage, is legal where it is an entry, and leads to that stage
pub data Reads : Stage → TextBytes → Stage → Type 0 where
  -- what stands before the journal is skipped, whatever it is
  skips : {t : TextBytes} → (t ≡ journal_line → ⊥) → Reads before t before
  begins : Reads before journal_line (head [])
  builtin : {bs : List Builtin} (b : Builtin) → IsLegibleBuiltin b
      → Reads (head bs) (builtin_text b) (head (bs ++ b ∷ []))
  root : {bs : List Builtin} {url : TextBytes} → IsUrlText url
      → Reads (head bs) (root_text url) (told (frame_of bs url) [])
  -- the entry's number is the next, its event is enabled, and its reply is the text of one that it may get
  entry : {f : Frame} {es : List Entry} {t : TextBytes} (e : Entry)
      → IsEntryLine t (length es + 1) e.caller e.event (replied_text e.reply)
      → IsStep (replay (start f) es) e
      → Reads (told f es) t (told f (es ++ e ∷ []))

-- these lines lead from the first stage to the last
abbrev pub ReadsAll : Stage → List TextBytes → Stage → Type 0
ReadsAll s [] u = s ≡ u
ReadsAll s (t ∷ ts) u = (m : Stage) × Reads s t m × ReadsAll m ts u

-- ---- what doesn't lead on

-- the line isn't in the grammar at this stage
abbrev pub IsBad : Stage → TextBytes → Type 0
IsBad before t = ⊥
IsBad (head bs) t =
    ((b : Builtin) → IsLegibleBuiltin b → t ≡ builtin_text b → ⊥)
    × ((url : TextBytes) → IsUrlText url → t ≡ root_text url → ⊥)
IsBad (told f es) t = (number caller : ℕ) (e : Event) (reply : TextBytes)
    → IsEntryLine t number caller e reply → ⊥

-- the reading hasn't come to the line of the root yet
abbrev pub HasNoRoot : Stage → Type 0
HasNoRoot (told f es) = ⊥
HasNoRoot _ = Unit {0}
