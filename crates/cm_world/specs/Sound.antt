-- Promised.
-- Which rows are those of an orderly world, and of a sound one. The next incarnation is given beside them.
use Rattle.std.specs.Prelude.{◌≡◌, ℕ, ◌<◌, List, [], ◌∷◌, Bool, true, false, ◌&&◌, Some, None, IsSome, IsTrue}
use Rattle.std.specs.Prelude.{is_none, count_by}
use Rattle.std.specs.Option.{option_map_or}
use Rattle.cm_decl.specs.declared.decl.Decl.{Decl}
use Rattle.cm_decl.specs.Same.{same_child}
use Rattle.cm_decl.specs.Graph.{static_name}
use Rattle.cm_decl.specs.Reach.{NoCycle}
use Rattle.cm_decl.specs.Valid.{IsValid}
use Rattle.cm_world.specs.declared.row.Row.{Row}
use Rattle.cm_world.specs.Rows.{row_of, has_parent, has_name, is_closing}
use Rattle.cm_world.specs.Level.{LevelStrong}

-- ---- orderly

-- incarnations increase along the list, and all are below the next one
abbrev pub IncarnationsIncrease : ℕ → List Row → Type 0
IncarnationsIncrease next [] = Unit {0}
IncarnationsIncrease next (r ∷ rs) = ((r.inc < next) × ((s : ℕ) → IsSome (row_of rs s) → r.inc < s))
    × IncarnationsIncrease next rs

-- row r is the one of incarnation i
abbrev pub Lives : List Row → ℕ → Row → Type 0
Lives rows i r = row_of rows i ≡ Some r

-- p may be the parent of i: it lives, is resolved and has a lower incarnation
pub record IsParent (rows : List Row) (p i : ℕ) : Type 0 where
  pub row : Row
  pub lives : Lives rows p row
  pub resolved : IsSome row.decl
  pub lower : p < i

-- an orderly tree: incarnations increase, there is one root, parents live and come first, names are
-- apart, and declarations are valid
pub record IsOrderly (rows : List Row) (next : ℕ) : Type 0 where
  pub increasing : IncarnationsIncrease next rows
  -- a row without a parent is the root
  pub root : (i : ℕ) (r : Row) → Lives rows i r → r.parent ≡ None → (i ≡ 0) × (r.name ≡ None)
  pub parents : (i p : ℕ) (r : Row) → Lives rows i r → r.parent ≡ Some p → IsParent rows p i × IsSome r.name
  -- no two rows that aren't doomed have one parent and one name
  pub one_name :
      (i j : ℕ) (r s : Row) → Lives rows i r → Lives rows j s → r.doomed ≡ false → s.doomed ≡ false
      → r.parent ≡ s.parent → r.name ≡ s.name → i ≡ j
  pub valid : (i : ℕ) (r : Row) (d : Decl) → Lives rows i r → r.decl ≡ Some d → IsValid d

-- ---- sound

-- a row that is shut is off, has no pending action, and was shut down in order: it or one above it is
-- marked so
pub record IsWellShut (rows : List Row) (r : Row) : Type 0 where
  pub off : r.on ≡ false
  pub idle : r.pending ≡ None
  pub closing : IsTrue (is_closing rows r.inc)

-- whether a row is a child of p that p's declaration names itself, not one in a collection
abbrev pub is_static_child : ℕ → Row → Bool
is_static_child p r = has_parent p r && option_map_or (λ c. is_none c.coll) r.name false

-- the declared children of p stand as p's declaration has them, one row each; none is doomed or was
-- given offers
pub record HasStatic (rows : List Row) (p : ℕ) (d : Decl) : Type 0 where
  pub one_each : (name : List ℕ) →
      count_by (λ r. has_parent p r && has_name (static_name name) r) rows
      ≡ count_by (λ k. same_child (static_name k.name) (static_name name)) d.children
  pub kept : (i : ℕ) (r : Row) → Lives rows i r → IsTrue (is_static_child p r)
      → (r.doomed ≡ false) × (r.gives ≡ [])

-- an orderly tree without cycles, in which what is doomed is closing, what is shut is well shut, and
-- declared children stand as declared
pub record IsSound (rows : List Row) (next : ℕ) : Type 0 where
  pub orderly : IsOrderly rows next
  -- no level has a cycle of strong edges
  pub acyclic : (p : ℕ) → NoCycle (LevelStrong rows p)
  -- a doomed row is closing
  pub doomed : (i : ℕ) (r : Row) → Lives rows i r → r.doomed ≡ true → r.closing ≡ true
  pub shut : (i : ℕ) (r : Row) → Lives rows i r → r.shut ≡ true → IsWellShut rows r
  pub static : (i : ℕ) (r : Row) (d : Decl) → Lives rows i r → r.decl ≡ Some d → HasStatic rows i d
