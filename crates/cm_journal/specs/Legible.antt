-- Inside.
-- That a run's journal is a legal journal.
use Rattle.std.specs.Prelude.{◌≡◌, ℕ, ◌<◌, ◌≤◌, List, [], ◌++◌, All, length, map}
use Rattle.cm_world.specs.declared.event.Event.{Event}
use Rattle.cm_world.specs.declared.frame.Frame.{Frame}
use Rattle.cm_world.specs.declared.reply.Entry.{Entry}
use Rattle.cm_world.specs.World.{start}
use Rattle.cm_world.specs.Legal.{Legal}
use Rattle.cm_manager.specs.Turns.{own_entries}
use Rattle.cm_command.specs.declared.script.Line.{Line}
use Rattle.cm_lanes.specs.Script.{AnsweredLine, ArePhases, answered_lines}
use Rattle.cm_lanes.specs.ScriptInside.{IsFit}
use Rattle.cm_reply.specs.Journal.{journal_text}
use Rattle.cm_reply.specs.Legible.{IsLegible}
use Rattle.cm_reply.specs.LegibleInside.{IsLegibleFrame}
use Rattle.cm_audit.specs.Verdict.{IsLegalJournal, journal_limit}
use Rattle.cm_typed.specs.Typed.{IsTyped, IsTypedEntry}
use Rattle.cm_journal.specs.Asked.{AreWritableLines}
use Rattle.cm_journal.specs.Prefix.{said_text}
use Rattle.cm_journal.specs.Made.{IsSayable, IsBrought}

-- an event that is legible by its types, by its command and by the work of its action is legible
abbrev pub SaidIsLegible : Type 0
SaidIsLegible = (e : Event) → IsTyped e → IsSayable e → IsBrought e → IsLegible e

-- what lanes make of lines that can be written, with the works of their actions
pub record IsWritableRun (f : Frame) (phases : List (List Line)) (answered : List (List AnsweredLine))
    (history : List Entry) : Type 0 where
  pub lines : map answered_lines answered ≡ phases
  pub writable : All AreWritableLines phases
  pub fit : All (λ (lines : List Line). All IsFit lines) phases
  pub legal : Legal (start f) history
  pub performed : ArePhases (λ c. f) answered [] history
  pub callers : All (λ (e : Entry). e.caller < 16) history
  pub typed : All IsTypedEntry history
  pub works : (c : ℕ) → c < 16 → All (λ (e : Entry). IsBrought e.event) (own_entries c history)

-- what is written of a run with its journal is a legal journal, unless it is too large
abbrev pub RunsWriteLegalJournals : Type 0
RunsWriteLegalJournals =
    (f : Frame) (phases : List (List Line)) (answered : List (List AnsweredLine)) (history : List Entry)
    → IsWritableRun f phases answered history → IsLegibleFrame f
    → length (said_text answered ++ journal_text f history) ≤ journal_limit
    → IsLegalJournal (said_text answered ++ journal_text f history) (length history)
