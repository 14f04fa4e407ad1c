-- Inside.
-- What the functions that read a journal promise.
use Rattle.std.specs.Prelude.{◌≡◌, ℕ, ◌+◌, ◌^◌, ◌<◌, ◌≤◌, min, List, [], ◌∷◌, ◌++◌, length, All}
use Rattle.std.specs.Prelude.{Option, Some, None}
use Rattle.cm_world.specs.declared.event.Event.{Event}
use Rattle.cm_world.specs.declared.event.Event.TheVariants.{Await, End, Pick}
use Rattle.cm_world.specs.declared.action.Finish.{Finish}
use Rattle.cm_world.specs.declared.action.Finish.TheVariants as finish
use Rattle.cm_world.specs.declared.reply.Reply.{Reply}
use Rattle.cm_world.specs.World.{World}
use Rattle.cm_world.specs.Step.{IsPickReply}
use Rattle.cm_laws.specs.Story.{Story, world_of, AddsEntry}
use Rattle.cm_laws.specs.Clients.{picked_by}
use Rattle.cm_command.specs.Scripts.{lines_of}
use Rattle.cm_command.specs.Words.{IsUrlText}
use Rattle.cm_reply.specs.Lists.{TextBytes}
use Rattle.cm_reply.specs.Journal.{builtin_text}
use Rattle.cm_reply.specs.Replies.{replied_text}
use Rattle.cm_reply.specs.Legible.{IsLegibleBuiltin}
use Rattle.cm_reply.specs.Lines.{IsEntryLine}
use Rattle.cm_audit.specs.declared.fault.ReadingStop.{ReadingStop}
use Rattle.cm_audit.specs.declared.fault.ReadingStop.TheVariants as stop
use Rattle.cm_audit.specs.declared.fault.JournalLineFault.{JournalLineFault}
use Rattle.cm_audit.specs.declared.fault.JournalLineFault.TheVariants as fault
use Rattle.cm_audit.specs.declared.head.HeadLine.{HeadLine}
use Rattle.cm_audit.specs.declared.head.HeadLine.TheVariants as said
use Rattle.cm_audit.specs.declared.verdict.Audit.TheVariants as audit
use Rattle.cm_audit.specs.Journal.{Stage, before, head, told, ReadsAll, IsBad, journal_line, root_text}
use Rattle.cm_audit.specs.Expected.{Expects}
use Rattle.cm_audit.specs.Verdict.{IsVerdict, bytes_of, journal_limit}

-- ---- places of a journal

-- the reading has taken some lines of the bytes, which led to this stage and are within the limit; the
-- rest begins with the line of that number
pub record IsAt (bytes : TextBytes) (number : ℕ) (rest : TextBytes) (stage : Stage) : Type 0 where
  pub prefix : List TextBytes
  pub lines : lines_of bytes ≡ prefix ++ lines_of rest
  pub taken : bytes_of bytes prefix + length rest ≡ length bytes
  pub short : bytes_of bytes prefix ≤ journal_limit
  pub counted : number ≡ length prefix + 1
  -- each line has a byte, or its line feed
  pub early : number ≤ bytes_of bytes prefix + 1
  pub reads : ReadsAll before prefix stage

-- the rest of a journal of `size` bytes begins with line t, which ends within the limit, and goes on
-- with `behind`
pub record IsCut (size : ℕ) (rest t behind : TextBytes) : Type 0 where
  pub lines : lines_of rest ≡ t ∷ lines_of behind
  pub end : min (length rest) (length t + 1) + length behind ≡ length rest
  pub shorter : length behind < length rest
  pub within : size ≤ journal_limit + length behind
  pub short : length t ≤ journal_limit

-- the first line of the rest of a journal of `size` bytes passes the limit
pub record PassesLimit (size : ℕ) (rest : TextBytes) : Type 0 where
  pub line : TextBytes
  pub behind : TextBytes
  pub lines : lines_of rest ≡ line ∷ lines_of behind
  pub end : min (length rest) (length line + 1) + length behind ≡ length rest
  pub beyond : journal_limit + length behind < size

-- why the reading ends before the last line: there is a verdict, or memory ran out
abbrev pub IsStop : TextBytes → ReadingStop → Type 0
IsStop bytes (stop.Verdict verdict) = IsVerdict bytes verdict
IsStop bytes stop.Memory = Unit {0}

-- no line of these bytes is the one that begins a journal
abbrev pub HasNoJournal : TextBytes → Type 0
HasNoJournal bytes = All (λ (t : TextBytes). t ≡ journal_line → ⊥) (lines_of bytes)

-- how a fault of the line with this number ends the reading
abbrev pub stop_at : ℕ → JournalLineFault → ReadingStop
stop_at number fault.Bad = stop.Verdict (audit.BadText number)
stop_at number (fault.Illegal n given expected) = stop.Verdict (audit.Illegal n given expected)
stop_at number fault.Memory = stop.Memory

-- ---- one line

-- what a line before the entries says: a builtin, the root, or nothing that is in the grammar there
abbrev pub IsHeadLine : TextBytes → HeadLine → Type 0
IsHeadLine t (said.Builtin b) = IsLegibleBuiltin b × (t ≡ builtin_text b)
IsHeadLine t (said.Root url) = IsUrlText url × (t ≡ root_text url)
IsHeadLine t said.Other = IsBad (head []) t

-- the stage after the entries of a history
abbrev pub stage_of : Story → Stage
stage_of s = told s.frame s.entries

-- the line is an entry that isn't legal after this history, with the number and reply that it has and
-- what is expected
pub record IsIllegal (s : Story) (t : TextBytes) (number : ℕ) (given expected : TextBytes) : Type 0 where
  pub caller : ℕ
  pub event : Event
  pub line : IsEntryLine t number caller event given
  pub expects : Expects (world_of s) (length s.entries + 1) number caller event given expected

-- what is wrong with a line after the entries of this history
abbrev pub IsJournalLineFault : Story → TextBytes → JournalLineFault → Type 0
IsJournalLineFault s t fault.Bad = IsBad (stage_of s) t
IsJournalLineFault s t (fault.Illegal number given expected) = IsIllegal s t number given expected
IsJournalLineFault s t fault.Memory = Unit {0}

-- ---- one event, with the reply that a journal gives it

-- the event was made in the realm, and the reply has this text
pub record StepTaken (old new : Story) (caller : ℕ) (event : Event) (given : TextBytes) : Type 0 where
  pub reply : Reply
  pub tells : AddsEntry old new caller event reply
  pub same : given ≡ replied_text reply

-- an end of an action that brings no declaration
abbrev pub BringsNothing : Finish → Type 0
BringsNothing (finish.Other outcome) = Unit {0}
BringsNothing _ = ⊥

-- the step of such an event takes no memory: an await, or an end that brings no declaration
abbrev pub TakesNoMemory : Event → Type 0
TakesNoMemory (Await action) = Unit {0}
TakesNoMemory (End action end) = BringsNothing end
TakesNoMemory _ = ⊥

-- the event is legal with the given reply, and was made in the realm; or something else is expected in
-- its place
abbrev pub IsEntryJudged : Story → Story → ℕ → Event → TextBytes → Option TextBytes → Type 0
IsEntryJudged old new caller event given None = StepTaken old new caller event given
IsEntryJudged old new caller event given (Some expected) =
    let next = length old.entries + 1 in
    Expects (world_of old) next next caller event given expected

-- the row that a text of a pick's reply names, if it is the text of a reply that names one
abbrev pub TellsRow : TextBytes → Option ℕ → Type 0
TellsRow given None =
    (t i : ℕ) (r : Reply) → picked_by (Pick t) r ≡ Some i → i < 2 ^ 64 → given ≡ replied_text r → ⊥
TellsRow given (Some row) =
    (t i : ℕ) (r : Reply) → picked_by (Pick t) r ≡ Some i → i < 2 ^ 64 → given ≡ replied_text r → i ≡ row

-- this is the text of no reply that the pick may get and that chooses a row
abbrev pub TellsNoPick : World → ℕ → TextBytes → Type 0
TellsNoPick w target given =
    (i : ℕ) (r : Reply)
    → IsPickReply w.rows w.next_action target r
    → picked_by (Pick target) r ≡ Some i
    → given ≡ replied_text r
    → ⊥
