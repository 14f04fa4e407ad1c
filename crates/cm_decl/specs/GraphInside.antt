-- Inside.
-- The realm graph with its implied edges, its orders, and where a further child would stand in it.
use Rattle.std.specs.Prelude.{◌≡◌, ℕ, ◌<◌, List, [], ◌&&◌, Some}
use Rattle.std.specs.Prelude.{slice_get, count_by, if◌then◌else◌, IsTrue}
use Rattle.std.specs.Prelude.{◌⊎◌}
use Rattle.std.specs.List.{list_any}
use Rattle.cm_decl.specs.declared.decl.Decl.{Decl}
use Rattle.cm_decl.specs.declared.rows.Give.{Give}
use Rattle.cm_decl.specs.declared.node.DynChild.{DynChild}
use Rattle.cm_decl.specs.declared.node.Node.{Node}
use Rattle.cm_decl.specs.declared.node.Node.TheVariants.{Own}
use Rattle.cm_decl.specs.Same.{same_node}
use Rattle.cm_decl.specs.RealmGraph.{RealmGraph, Directly, Depends}
use Rattle.cm_decl.specs.Graph.{child_sources, nodes, is_node, is_from_node, is_strong_edge}

-- the realm graph of a declaration with these children of its collections
abbrev pub realm : Decl → List DynChild → RealmGraph Node
realm d dynamic = record { own = Own; has = is_node d dynamic; edge = is_strong_edge d dynamic }

-- node x depends on node y in the realm graph, directly or through others, implied edges included
abbrev pub DependsOn : Decl → List DynChild → Node → Node → Type 0
DependsOn d dynamic x y = Depends (realm d dynamic) x y

-- each node stands once in the order, before all nodes that it depends on
pub record IsTopologicalOrder (r : RealmGraph Node) (order : List Node) : Type 0 where
  pub once : (x : Node) → count_by (same_node x) order ≡ (if r.has x then 1 else 0)
  pub before : (x y : Node) (i j : ℕ) → slice_get order i ≡ Some x → slice_get order j ≡ Some y
      → Directly r x y → i < j

-- a further child of the collection would directly depend on y: a source of what it is offered, or the
-- component itself
abbrev pub WouldDirectly : Decl → List DynChild → List ℕ → List Give → Node → Type 0
WouldDirectly d dynamic coll gives y =
    IsTrue (list_any (is_from_node y) (child_sources d (record { coll = Some coll; name = [] }) gives)
    && is_node d dynamic y) ⊎ (y ≡ Own)

-- a further child of the collection, on which nothing depends, would depend on y: directly, or through
-- others
pub record WouldDepend (d : Decl) (dynamic : List DynChild) (coll : List ℕ) (gives : List Give) (y : Node)
    : Type 0 where
  pub first : Node
  pub direct : WouldDirectly d dynamic coll gives first
  pub onward : (first ≡ y) ⊎ DependsOn d dynamic first y
