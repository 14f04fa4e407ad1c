-- Inside.
-- What the report `environments` tells of one row.
use Rattle.std.specs.Prelude.{ℕ, List}
use Rattle.std.specs.List.{flat_map}
use Rattle.cm_world.specs.declared.row.Row.{Row}
use Rattle.cm_env.specs.Rows.{told_itself}
use Rattle.cm_env.specs.Report.{lines_of}

-- the lines of a row itself; none where a report leaves it out
abbrev pub own_lines : List Row → ℕ → List ℕ
own_lines rows i = flat_map (lines_of rows) (told_itself rows i)
