-- Promised.
-- The realm graph of a declaration and of children that were created in its collections. That a
-- component stops before what it strongly depends on is the rule of Fuchsia's component lifecycle
-- documentation (fuchsia.dev); the implied edges and the choice of one cycle are this project's own.
use Rattle.std.specs.Prelude.{ℕ, List, ◌∷◌, ◌++◌, Bool, true, false, ◌&&◌, Option, Some, None}
use Rattle.std.specs.Prelude.{filter, map, flat_map, unwrap_or, IsTrue}
use Rattle.std.specs.List.{list_any}
use Rattle.std.specs.Str.{bytes_eq}
use Rattle.std.specs.Option.{option_eq}
use Rattle.cm_names.specs.declared.child.ChildName.{ChildName}
use Rattle.cm_names.specs.declared.dependency.Dependency.{Dependency}
use Rattle.cm_names.specs.declared.dependency.Dependency.TheVariants.{Strong, Weak}
use Rattle.cm_decl.specs.declared.decl.Decl.{Decl}
use Rattle.cm_decl.specs.declared.rows.Child.{Child as DeclaredChild}
use Rattle.cm_decl.specs.declared.rows.Give.{Give}
use Rattle.cm_decl.specs.declared.node.DynChild.{DynChild}
use Rattle.cm_decl.specs.declared.origin.Origin.{Origin}
use Rattle.cm_decl.specs.declared.origin.Origin.TheVariants as origin
use Rattle.cm_decl.specs.declared.node.Node.{Node}
use Rattle.cm_decl.specs.declared.node.Node.TheVariants.{Own, Child}
use Rattle.cm_decl.specs.Same.{same_child, same_node}

-- the node of the realm graph that a source stands for, if it stands for one
abbrev pub node_of : Origin → Option Node
node_of origin.Own = Some Own
node_of (origin.Child c) = Some (Child c)
node_of _ = None

-- whether a dependency is strong: the one that depends has to stop first
abbrev pub is_strong : Dependency → Bool
is_strong Strong = true
is_strong Weak = false

-- the name by which offers to a child name it: that of its collection, if it is in one, else its own
abbrev pub target_of : ChildName → List ℕ
target_of c = unwrap_or c.coll c.name

-- what a declaration offers to a child
abbrev pub offers_to : Decl → ChildName → List Give
offers_to d c = map (λ o. o.give) (filter (λ o. bytes_eq o.to (target_of c)) d.offers)

-- the sources that a child strongly depends on: of the offers to it, and of what it was given when it
-- was created
abbrev pub child_sources : Decl → ChildName → List Give → List Origin
child_sources d c gives = map (λ g. g.from) (filter (λ g. is_strong g.dependency) (offers_to d c ++ gives))

-- whether a source is a child
abbrev pub is_from_child : Origin → Bool
is_from_child (origin.Child c) = true
is_from_child _ = false

-- the children that the component itself strongly depends on, by its uses
abbrev pub own_sources : Decl → List Origin
own_sources d = map (λ u. u.from) (filter (λ u. is_strong u.dependency && is_from_child u.from) d.uses)

-- the name of a declared child, which is in no collection
abbrev pub static_name : List ℕ → ChildName
static_name name = record { coll = None; name = name }

-- the node of a declared child
abbrev pub static_node : DeclaredChild → Node
static_node k = Child (static_name k.name)

-- the node of a child that was created in a collection
abbrev pub dynamic_node : DynChild → Node
dynamic_node k = Child k.name

-- the nodes of the realm graph: the component itself, each declared child and each child in a
-- collection
abbrev pub nodes : Decl → List DynChild → List Node
nodes d dynamic = Own ∷ map static_node d.children ++ map dynamic_node dynamic

-- whether it is a node of the realm graph
abbrev pub is_node : Decl → List DynChild → Node → Bool
is_node d dynamic x = list_any (λ y. same_node y x) (nodes d dynamic)

-- what the children of this name in collections were given when they were created
abbrev pub gives_of : List DynChild → ChildName → List Give
gives_of dynamic c = flat_map (λ k. k.gives) (filter (λ k. same_child k.name c) dynamic)

-- the sources that a node strongly depends on
abbrev pub sources_of : Decl → List DynChild → Node → List Origin
sources_of d dynamic Own = own_sources d
sources_of d dynamic (Child c) = child_sources d c (gives_of dynamic c)

-- whether a source stands for this node
abbrev pub is_from_node : Node → Origin → Bool
is_from_node y from = option_eq same_node (node_of from) (Some y)

-- whether node x strongly depends on node y: y is a source of x
abbrev pub is_strong_edge : Decl → List DynChild → Node → Node → Bool
is_strong_edge d dynamic x y =
    list_any (is_from_node y) (sources_of d dynamic x) && is_node d dynamic x && is_node d dynamic y

-- node x strongly depends on node y, as a relation
abbrev pub StrongOn : Decl → List DynChild → Node → Node → Type 0
StrongOn d dynamic x y = IsTrue (is_strong_edge d dynamic x y)
