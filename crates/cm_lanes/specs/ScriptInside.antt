-- Inside.
-- What lanes make of a script's lines.
use Rattle.std.specs.Prelude.{ℕ, ◌<◌, List, filter, ◌==◌}
use Rattle.cm_command.specs.declared.script.Line.{Line}
use Rattle.cm_lanes.specs.declared.said.Said.{Said}
use Rattle.cm_lanes.specs.Script.{AnsweredLine}

-- an answer as the lanes hand it out: the line's number, its lane, and what came of it
abbrev pub said_of : AnsweredLine → Said
said_of a = record { line = a.line.line; lane = a.line.lane; result = a.result }

-- the lines of a script that are for one lane
abbrev pub lines_of : ℕ → List Line → List Line
lines_of c lines = filter (λ l. l.lane == c) lines

-- the line is for one of the sixteen lanes
pub record IsFit (l : Line) : Type 0 where
  pub lane : l.lane < 16
