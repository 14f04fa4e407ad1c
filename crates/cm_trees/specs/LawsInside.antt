-- Inside.
-- That a shutdown can always go on, as a law.
use Rattle.std.specs.Prelude.{◌≡◌, ℕ, List, false, Some, IsTrue}
use Rattle.cm_world.specs.declared.row.Row.{Row}
use Rattle.cm_world.specs.Rows.{row_of, is_closing}
use Rattle.cm_world.specs.Sound.{IsSound}
use Rattle.cm_trees.specs.Laws.{CanStop}

-- in a sound tree, as long as a row that is being shut down isn't shut, some such row may stop
abbrev pub HasNoDeadEnd : Type 0
HasNoDeadEnd =
    (rows : List Row) (next i : ℕ) (r : Row) → IsSound rows next →
    row_of rows i ≡ Some r → IsTrue (is_closing rows i) → r.shut ≡ false → CanStop rows i
