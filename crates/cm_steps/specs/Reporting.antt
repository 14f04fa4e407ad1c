-- Inside.
-- What a list of children, a survey and a purge take from one row.
use Rattle.std.specs.Prelude.{ℕ, List, [], map, Bool, not, ◌&&◌, if◌then◌else◌}
use Rattle.std.specs.Prelude.{Option, Some, None, option_and_then}
use Rattle.std.specs.Str.{bytes_eq}
use Rattle.std.specs.Option.{option_eq}
use Rattle.cm_names.specs.declared.child.ChildName.{ChildName}
use Rattle.cm_decl.specs.declared.decl.Decl.{Decl}
use Rattle.cm_world.specs.declared.row.Row.{Row}
use Rattle.cm_world.specs.declared.report.Kid.{Kid}
use Rattle.cm_world.specs.declared.report.Lost.{Lost}
use Rattle.cm_world.specs.declared.report.SurveyRow.{SurveyRow}
use Rattle.cm_world.specs.Rows.{is_gone}
use Rattle.cm_world.specs.Reports.{survey_row}
use Rattle.cm_world.specs.Marks.{lost_of}

-- row i, named c, as a child in this collection, if it is in it and isn't doomed
abbrev pub kid_as : List ℕ → ℕ → Bool → ChildName → Option Kid
kid_as coll i doomed c =
    if option_eq bytes_eq c.coll (Some coll) && not doomed
    then Some (record { name = c.name; inc = i }) else None

-- a row as a child in this collection of its parent, if it is in it and isn't doomed
abbrev pub kid_in : List ℕ → Row → Option Kid
kid_in coll r = option_and_then (kid_as coll r.inc r.doomed) r.name

-- the paths that a declaration uses; none where there is no declaration
abbrev pub paths_by : Option Decl → List (List ℕ)
paths_by None = []
paths_by (Some d) = map (λ u. u.path) d.uses

-- a row as a survey tells it, if it isn't gone
abbrev pub surveyed_row : List Row → Row → Option SurveyRow
surveyed_row rows r = if not (is_gone rows r.inc) then Some (survey_row rows r) else None

-- a row as a purge tells it
abbrev pub lost_row : List Row → Row → Option Lost
lost_row rows r = Some (lost_of rows r)
