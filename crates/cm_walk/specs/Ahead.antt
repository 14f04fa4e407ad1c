-- Inside.
-- The set of instances that a way down the tree has still to go to.
use Rattle.std.specs.Prelude.{ℕ, List, Bool, false}
use Rattle.std.specs.Option.{option_map_or}
use Rattle.std.specs.Ordering.{nat_cmp}
use Rattle.std.specs.BTreeSet.{BTreeSet, contains}
use Rattle.cm_world.specs.declared.row.Row.{Row}
use Rattle.cm_world.specs.Rows.{row_of, has_parent}

-- whether an instance is in the set
abbrev pub is_in_set : BTreeSet ℕ → ℕ → Bool
is_in_set set i = contains nat_cmp set i

-- whether a row lives and is a child of p
abbrev pub is_child : List Row → ℕ → ℕ → Bool
is_child rows p i = option_map_or (has_parent p) (row_of rows i) false
