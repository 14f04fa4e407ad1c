-- Promised.
-- That a shutdown can always go on.
use Rattle.std.specs.Prelude.{◌≡◌, ℕ, List, false, Some, IsTrue}
use Rattle.cm_world.specs.declared.row.Row.{Row}
use Rattle.cm_world.specs.Rows.{row_of, is_below}
use Rattle.cm_world.specs.Stopping.{outermost, MayStop}

-- at or below the outermost closing row above row i there is one that isn't shut and may stop
pub record CanStop (rows : List Row) (i : ℕ) : Type 0 where
  pub top : ℕ
  pub outermost : outermost rows i ≡ Some top
  pub inc : ℕ
  pub row : Row
  pub lives : row_of rows inc ≡ Some row
  pub below : IsTrue (is_below rows top inc)
  pub unshut : row.shut ≡ false
  pub may_stop : MayStop rows inc
