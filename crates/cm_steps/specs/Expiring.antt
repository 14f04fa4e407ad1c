-- Inside.
-- The rows that go with one that stops, as the realm goes through them.
use Rattle.std.specs.Prelude.{ℕ, List, not, ◌&&◌, map, if◌then◌else◌}
use Rattle.cm_world.specs.declared.row.Row.{Row}
use Rattle.cm_world.specs.Rows.{has_parent}
use Rattle.cm_world.specs.Marks.{is_dynamic}
use Rattle.cm_world.specs.End.{set_doomed}

-- the row, doomed if it is in a collection
abbrev pub doomed_if_dynamic : Row → Row
doomed_if_dynamic r = if is_dynamic r && not r.doomed then set_doomed r else r

-- the rows with each child of p in a collection doomed
abbrev pub doomed_below : ℕ → List Row → List Row
doomed_below p rows = map (λ r. if has_parent p r then doomed_if_dynamic r else r) rows
