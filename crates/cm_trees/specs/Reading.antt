-- Inside.
-- The test of a row by which the child with a name is found.
use Rattle.std.specs.Prelude.{ℕ, Bool, not, ◌&&◌}
use Rattle.cm_names.specs.declared.child.ChildName.{ChildName}
use Rattle.cm_world.specs.declared.row.Row.{Row}
use Rattle.cm_world.specs.Rows.{has_parent, has_name}

-- whether a row is the child of p with this name, and isn't doomed: the test in `child_of`, for proofs
abbrev pub is_there : ℕ → ChildName → Row → Bool
is_there p c r = has_parent p r && has_name c r && not r.doomed
