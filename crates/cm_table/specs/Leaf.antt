-- Inside.
-- What may be removed before the rows above it: rows go leaf by leaf.
use Rattle.std.specs.Prelude.{◌≡◌, ℕ, List, Option, Some, None, IsTrue}
use Rattle.cm_world.specs.declared.row.Row.{Row}
use Rattle.cm_world.specs.Rows.{row_of, is_live, is_below}
use Rattle.cm_world.specs.RowsInside.{child_behind}
use Rattle.cm_world.specs.After.{others_than}
use Rattle.cm_table.specs.Tree.{Tree}

-- a living row at or below row top
pub record IsWithin (rows : List Row) (top i : ℕ) : Type 0 where
  pub lives : IsTrue (is_live rows i)
  pub below : IsTrue (is_below rows top i)

-- a living row without children, at or below row top
pub record IsLeaf (rows : List Row) (top i : ℕ) : Type 0 where
  pub lives : IsTrue (is_live rows i)
  pub below : IsTrue (is_below rows top i)
  pub childless : child_behind rows i None ≡ None

-- a living row whose parent is p
pub record IsChildOf (rows : List Row) (p i : ℕ) : Type 0 where
  pub row : Row
  pub lives : row_of rows i ≡ Some row
  pub under : row.parent ≡ Some p

-- where the removal of all at and below a row goes on: at a living row there, or nowhere
abbrev pub Continues : Tree → ℕ → Option ℕ → Type 0
Continues t top None = row_of t.rows top ≡ None
Continues t top (Some i) = IsWithin t.rows top i

-- the rows that aren't at or below this one are the same in both lists
abbrev pub HaveSameOthers : ℕ → List Row → List Row → Type 0
HaveSameOthers top rows others = others_than rows top ≡ others_than others top
