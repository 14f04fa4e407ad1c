-- Inside.
-- What a new child depends on through children in collections, looked for from the new child alone.
use Rattle.std.specs.Prelude.{◌≡◌, ℕ, List, Bool, true, not, ◌&&◌, ◌||◌, Some, IsTrue}
use Rattle.std.specs.Prelude.{◌⊎◌}
use Rattle.std.specs.List.{list_all}
use Rattle.std.specs.Option.{option_map_or}
use Rattle.std.specs.BTreeSet.{BTreeSet}
use Rattle.cm_names.specs.declared.child.ChildName.{ChildName}
use Rattle.cm_decl.specs.declared.origin.Origin.{Origin}
use Rattle.cm_decl.specs.declared.origin.Origin.TheVariants as origin
use Rattle.cm_decl.specs.declared.rows.Give.{Give}
use Rattle.cm_decl.specs.Same.{same_child}
use Rattle.cm_world.specs.declared.row.Row.{Row}
use Rattle.cm_world.specs.Rows.{row_of, child_of}
use Rattle.cm_walk.specs.Ahead.{is_in_set}
use Rattle.cm_dynamic.specs.Apart.{binds_created}

-- whether a child that a name finds is in the set of those seen, and isn't the new one itself
abbrev pub is_past : List Row → ℕ → ChildName → BTreeSet ℕ → ChildName → Bool
is_past rows p new seen c = not (same_child c new) && option_map_or (is_in_set seen) (child_of rows p c) true

-- whether a source is no child, or one that is in the set of those seen and isn't the new one
abbrev pub is_past_from : List Row → ℕ → ChildName → BTreeSet ℕ → Origin → Bool
is_past_from rows p new seen (origin.Child c) = is_past rows p new seen c
is_past_from rows p new seen _ = true

-- whether a give doesn't come strongly from a child in a collection, or comes from one that is in the
-- set of those seen and isn't the new one
abbrev pub leads_past : List Row → ℕ → ChildName → BTreeSet ℕ → Give → Bool
leads_past rows p new seen g =
    not (binds_created g.dependency g.from) || is_past_from rows p new seen g.from

-- all that row i was given comes from elsewhere, or from children in the set of those seen that aren't
-- the new one
abbrev pub RowLeadsPast : List Row → ℕ → ChildName → BTreeSet ℕ → ℕ → Type 0
RowLeadsPast rows p new seen i =
    (r : Row) → row_of rows i ≡ Some r → IsTrue (list_all (leads_past rows p new seen) r.gives)

-- a set has all children in collections on which a new child depends, and none of them depends on it
pub record ComesFrom (rows : List Row) (p : ℕ) (new : ChildName) (gives : List Give) (seen : BTreeSet ℕ)
    : Type 0 where
  pub own : IsTrue (list_all (leads_past rows p new seen) gives)
  pub each : (i : ℕ) → IsTrue (is_in_set seen i) → RowLeadsPast rows p new seen i

-- some set has them, so the new child closes no cycle
abbrev pub IsOnward : List Row → ℕ → ChildName → List Give → Type 0
IsOnward rows p new gives = (seen : BTreeSet ℕ) × ComesFrom rows p new gives seen

-- one step of the search: what was seen or lay ahead still does, and what is seen anew lies ahead
pub record Grows (first left more further : BTreeSet ℕ) : Type 0 where
  pub seen : (i : ℕ) → IsTrue (is_in_set first i) → IsTrue (is_in_set more i)
  pub ahead : (i : ℕ) → IsTrue (is_in_set left i) → IsTrue (is_in_set further i)
  pub fresh : (i : ℕ) → IsTrue (is_in_set more i)
      → IsTrue (is_in_set first i) ⊎ IsTrue (is_in_set further i)

-- the search so far: what was seen and doesn't lie ahead has been looked at
pub record IsWalking (rows : List Row) (p : ℕ) (new : ChildName) (gives : List Give)
    (seen ahead : BTreeSet ℕ) : Type 0 where
  pub own : IsTrue (list_all (leads_past rows p new seen) gives)
  pub each : (i : ℕ) → IsTrue (is_in_set seen i)
      → IsTrue (is_in_set ahead i) ⊎ RowLeadsPast rows p new seen i
