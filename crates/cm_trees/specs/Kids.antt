-- Inside.
-- The children of a row, one after another.
use Rattle.std.specs.Prelude.{◌≡◌, ℕ, List, ◌&&◌, Option, Some, filter}
use Rattle.cm_world.specs.declared.row.Row.{Row}
use Rattle.cm_world.specs.Rows.{row_of, has_parent}
use Rattle.cm_world.specs.RowsInside.{is_behind}

-- the children of a row after the given one, or all, in order
abbrev pub kids : List Row → ℕ → Option ℕ → List Row
kids rows p after = filter (λ r. has_parent p r && is_behind after r.inc) rows

-- c is a row whose parent is p
pub record IsKid (rows : List Row) (p c : ℕ) : Type 0 where
  pub row : Row
  pub lives : row_of rows c ≡ Some row
  pub parent : row.parent ≡ Some p
