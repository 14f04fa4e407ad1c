-- Inside.
-- What the first names of a moniker lead to.
use Rattle.std.specs.Prelude.{◌≡◌, ◌≤◌, ℕ, List, drop, length, IsTrue}
use Rattle.cm_names.specs.declared.child.ChildName.{ChildName}
use Rattle.cm_world.specs.declared.row.Row.{Row}
use Rattle.cm_world.specs.Rows.{is_live}
use Rattle.cm_world.specs.Located.{located_from}

-- the first k of these names lead from the root to row i, so that the others decide where all lead
pub record LeadsDownTo (rows : List Row) (names : List ChildName) (i k : ℕ) : Type 0 where
  pub lives : IsTrue (is_live rows i)
  pub within : k ≤ length names
  pub on : located_from rows i k (drop k names) ≡ located_from rows 0 0 names
