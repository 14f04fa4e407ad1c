-- Inside.
-- How the answers of all lanes are merged into the order of the script.
use Rattle.std.specs.Prelude.{◌≡◌, ◌≢◌, ℕ, ◌<◌, List, [], ◌++◌, map, IfNone, length, option_to_list, Option}
use Rattle.std.specs.Prelude.{slice_index_or}
use Rattle.cm_command.specs.declared.script.Line.{Line}
use Rattle.cm_lanes.specs.declared.said.Said.{Said}
use Rattle.cm_lanes.specs.Script.{AnsweredLine, answered_lines, answers_of}
use Rattle.cm_lanes.specs.ScriptInside.{said_of}
use Rattle.cm_lanes.specs.Lane.{Queue}
use Rattle.cm_lanes.specs.Phases.{told_to}

-- the first answer of one lane's queue was taken, if it had one; the other queues stay
pub record TakesFirst (lane : ℕ) (old new : List Queue) (taken : Option Said) : Type 0 where
  pub long : length new ≡ length old
  pub here : (d : Queue)
      → (slice_index_or old lane d).items ≡ option_to_list taken ++ (slice_index_or new lane d).items
  pub none : IfNone taken ((d : Queue) → (slice_index_or old lane d).items ≡ [])
  pub others : (k : ℕ) (d : Queue) → k ≢ lane → slice_index_or new k d ≡ slice_index_or old k d

-- each queue begins with the answers to its own lane's lines among these, so a merge can go on
pub record QueuesStartWith (lines : List Line) (queues : List Queue) : Type 0 where
  pub answered : List AnsweredLine
  pub lines_are : answered_lines answered ≡ lines
  pub behind : ℕ → List Said
  pub each : (k : ℕ) (d : Queue) → k < 16
      → (slice_index_or queues k d).items ≡ map said_of (answers_of k answered) ++ behind k

-- each queue has the answers to its own lane's lines of all phases, and no others
pub record QueuesHaveAll (phases : List (List Line)) (queues : List Queue) : Type 0 where
  pub answered : List (List AnsweredLine)
  pub lines_are : map answered_lines answered ≡ phases
  pub each : (k : ℕ) (d : Queue) → k < 16 → (slice_index_or queues k d).items ≡ told_to k answered
