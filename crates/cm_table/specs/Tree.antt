-- Inside.
-- What contracts see of a table.
use Rattle.std.specs.Prelude.{ℕ, List, [], ◌∷◌, Bool}
use Rattle.cm_world.specs.declared.row.Row.{Row}
use Rattle.cm_world.specs.declared.frame.Builtin.{Builtin}
use Rattle.cm_world.specs.World.{root_row, rows_fit}

-- a table as contracts see it: the rows of a realm tree, the incarnation that the next new row gets,
-- the builtins above the root, the limit of rows, and for how many resolves memory is kept
pub record Tree : Type 0 where
  pub rows : List Row
  pub next_inc : ℕ
  pub builtins : List Builtin
  pub limit : ℕ
  pub spare : ℕ

-- a table of one row, the root, which isn't resolved
abbrev pub first_tree : List ℕ → List Builtin → ℕ → Tree
first_tree url builtins limit =
    record { rows = root_row url ∷ []; next_inc = 1; builtins = builtins; limit = limit; spare = 0 }

-- whether n more rows fit in the limit, and their incarnations within the numbers
abbrev pub fit : Tree → ℕ → Bool
fit t n = rows_fit t.limit t.rows t.next_inc n
