-- Inside.
-- The way up from a row to one above it, on which a single row is checked.
use Rattle.std.specs.Prelude.{ℕ, List, Bool, false, not, ◌&&◌, is_none}
use Rattle.std.specs.Option.{option_map_or}
use Rattle.cm_world.specs.declared.row.Row.{Row}
use Rattle.cm_world.specs.Rows.{row_of}
use Rattle.cm_world.specs.Stopping.{line_up_to, AllFree}

-- whether a row lives, isn't shut and has no pending action
abbrev pub is_idle : List Row → ℕ → Bool
is_idle rows i = option_map_or (λ r. not r.shut && is_none r.pending) (row_of rows i) false

-- at each level from the top down to row y nothing binds the node that leads to it
abbrev pub IsFreeUpTo : List Row → ℕ → ℕ → Type 0
IsFreeUpTo rows top y = AllFree rows y (line_up_to rows top y)
