-- Promised.
-- The level of an instance: which of it and its children depends on which. It is the realm graph of its
-- declaration, made of rows: of the instance itself and of its children that live, doomed ones too.
use Rattle.std.specs.Prelude.{ℕ, List, [], Bool, false, ◌&&◌, ◌||◌, ◌==◌, nat_eq, Some, None, if◌then◌else◌}
use Rattle.std.specs.List.{list_any}
use Rattle.std.specs.Option.{option_eq, option_map_or}
use Rattle.cm_decl.specs.declared.decl.Decl.{Decl}
use Rattle.cm_decl.specs.declared.origin.Origin.{Origin}
use Rattle.cm_decl.specs.declared.origin.Origin.TheVariants.{Own, Child}
use Rattle.cm_decl.specs.Graph.{own_sources, child_sources}
use Rattle.cm_decl.specs.RealmGraph.{RealmGraph, Strong}
use Rattle.cm_world.specs.declared.row.Row.{Row}
use Rattle.cm_world.specs.Rows.{row_of, is_live, decl_of, child_of, has_parent}

-- whether x is the incarnation of a child of p
abbrev pub is_child_row : List Row → ℕ → ℕ → Bool
is_child_row rows p x = option_map_or (has_parent p) (row_of rows x) false

-- whether x is a node of p's level: p itself, or a child of p
abbrev pub is_level_node : List Row → ℕ → ℕ → Bool
is_level_node rows p x = (x == p && is_live rows p) || is_child_row rows p x

-- the sources that a child row strongly depends on, by what its parent's declaration and its own gives
-- offer it
abbrev pub row_sources : Decl → Row → List Origin
row_sources d r = elim r.name as (λ _. List Origin) [ None ↦ [] | Some c ↦ child_sources d c r.gives ]

-- the sources that the child with this incarnation strongly depends on; none where it doesn't live
abbrev pub child_row_sources : List Row → Decl → ℕ → List Origin
child_row_sources rows d x =
    elim (row_of rows x) as (λ _. List Origin) [ None ↦ [] | Some r ↦ row_sources d r ]

-- the sources that a node of p's level strongly depends on; for p itself those that it uses of its
-- children
abbrev pub level_sources : List Row → ℕ → ℕ → List Origin
level_sources rows p x =
    elim (decl_of rows p) as (λ _. List Origin) [
      | None ↦ []
      | Some d ↦ if x == p then own_sources d else child_row_sources rows d x
    ]

-- whether a source leads to node y of p's level; a child is found by its name, so no doomed row is one
abbrev pub is_from_row : List Row → ℕ → ℕ → Origin → Bool
is_from_row rows p y Own = y == p
is_from_row rows p y (Child c) = option_eq nat_eq (child_of rows p c) (Some y)
is_from_row rows p y _ = false

-- whether node x of p's level strongly depends on node y: y is a source of x
abbrev pub level_edge : List Row → ℕ → ℕ → ℕ → Bool
level_edge rows p x y =
    list_any (is_from_row rows p y) (level_sources rows p x) && is_level_node rows p x
    && is_level_node rows p y

-- the level of p as a graph: p, its children, and the strong edges between them
abbrev pub level : List Row → ℕ → RealmGraph ℕ
level rows p = record { own = p; has = is_level_node rows p; edge = level_edge rows p }

-- x strongly depends on y at the level of p
abbrev pub LevelStrong : List Row → ℕ → ℕ → ℕ → Type 0
LevelStrong rows p x y = Strong (level rows p) x y
