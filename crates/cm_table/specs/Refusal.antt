-- Inside.
-- When a table refuses a row.
use Rattle.std.specs.Prelude.{◌≡◌, true, false}
use Rattle.cm_table.specs.Tree.{Tree, fit}
use Rattle.cm_table.specs.declared.table.TableFault.{TableFault}
use Rattle.cm_table.specs.declared.table.TableFault.TheVariants.{Full, Memory}

-- why a table takes no further row: it is full; or it isn't, and memory ran out
abbrev pub RefusesRow : Tree → TableFault → Type 0
RefusesRow t Full = fit t 1 ≡ false
RefusesRow t Memory = fit t 1 ≡ true
