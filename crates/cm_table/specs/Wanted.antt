-- Inside.
-- The names of the children that others were given something from, strongly, when they were created.
use Rattle.std.specs.Prelude.{◌≡◌, ℕ, List, Bool, false, IsTrue}
use Rattle.std.specs.Ordering.{nat_cmp}
use Rattle.std.specs.BTreeSet.{BTreeSet, contains}
use Rattle.cm_names.specs.declared.child.ChildName.{ChildName}
use Rattle.cm_decl.specs.declared.rows.Give.{Give}
use Rattle.cm_world.specs.declared.row.Row.{Row}
use Rattle.cm_world.specs.RowsInside.{wants_none, IsUnwanted}
use Rattle.cm_table.specs.ByName.{word_of}

-- whether a set of words has that of a name
abbrev pub has_name : BTreeSet ℕ → ChildName → Bool
has_name set c = contains nat_cmp set (word_of c)

-- a set has the words of another one
abbrev pub HasNamesOf : BTreeSet ℕ → BTreeSet ℕ → Type 0
HasNamesOf old new = (c : ChildName) → has_name new c ≡ false → has_name old c ≡ false

-- it has the words of the names of all children that these strongly come from
abbrev pub HasSourcesOf : List Give → BTreeSet ℕ → Type 0
HasSourcesOf gives set = (c : ChildName) → has_name set c ≡ false → IsTrue (wants_none c gives)

-- it has those of all that rows were given
pub record KnowsWanted (rows : List Row) (set : BTreeSet ℕ) : Type 0 where
  pub none : (c : ChildName) → has_name set c ≡ false → IsUnwanted rows c
