-- Inside.
-- What follows for every history in which lanes performed a script.
use Rattle.std.specs.Prelude.{◌≡◌, ℕ, List, ◌++◌, map, flat_map, Err}
use Rattle.std.specs.List.{AllZip}
use Rattle.cm_turn.specs.History.{StartsWith}
use Rattle.cm_world.specs.declared.answer.Refusal.TheVariants as refusal
use Rattle.cm_world.specs.declared.frame.Frame.{Frame}
use Rattle.cm_world.specs.declared.reply.Entry.{Entry}
use Rattle.cm_world.specs.World.{start}
use Rattle.cm_world.specs.Legal.{Legal}
use Rattle.cm_manager.specs.Turns.{own_entries}
use Rattle.cm_manager.specs.CallsInside.{Runs}
use Rattle.cm_command.specs.declared.script.Line.{Line}
use Rattle.cm_lanes.specs.Script.{AnsweredLine, PerformsLines, ArePhases}

-- the caller's own entries between two places of a history fall into parts, one for each line, in
-- order and with nothing left over; each part is a run of that line's command with its answer
pub record FallsIntoRuns (f : Frame) (history : List Entry) (c : ℕ) (answered : List AnsweredLine)
    (before after : List Entry) : Type 0 where
  pub parts : List (List Entry)
  pub whole : own_entries c after ≡ own_entries c before ++ flat_map (λ part. part) parts
  pub runs : AllZip (λ part a. Runs f history a.line.command c part a.result) parts answered

-- the lines that a caller performed are runs in every legal history that goes on from there
abbrev pub LinesAreRuns : Type 0
LinesAreRuns =
    (f : Frame) (c : ℕ) (answered : List AnsweredLine) (before after history : List Entry)
    → PerformsLines f c answered before after → Legal (start f) history → StartsWith history after
    → FallsIntoRuns f history c answered before after

-- a line whose answer was lost for lack of memory
abbrev pub no_answer : Line → AnsweredLine
no_answer l = record { line = l; result = Err refusal.Memory }

-- all lines may be answered so at any place of a history, without an entry
abbrev pub LinesMayBeLost : Type 0
LinesMayBeLost =
    (frames : ℕ → Frame) (phases : List (List Line)) (history : List Entry)
    → ArePhases frames (map (λ p. map no_answer p) phases) history history
