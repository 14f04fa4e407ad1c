-- Inside.
-- The nodes of a level by their names, as the realm graph of the declaration has them. A doomed child
-- has no node there, since no name finds it.
use Rattle.std.specs.Prelude.{ℕ, List, [], ◌∷◌, ◌==◌, Option, Some, None, is_some, option_map}
use Rattle.std.specs.Prelude.{option_and_then, if◌then◌else◌}
use Rattle.std.specs.List.{flat_map}
use Rattle.cm_names.specs.declared.child.ChildName.{ChildName}
use Rattle.cm_decl.specs.declared.rows.Give.{Give}
use Rattle.cm_decl.specs.declared.node.DynChild.{DynChild}
use Rattle.cm_decl.specs.declared.node.Node.{Node}
use Rattle.cm_decl.specs.declared.node.Node.TheVariants.{Own, Child}
use Rattle.cm_world.specs.declared.row.Row.{Row}
use Rattle.cm_world.specs.Rows.{row_of}
use Rattle.cm_trees.specs.Kids.{kids}

-- the node of a child row; none for a doomed one
abbrev pub child_node : Row → Option Node
child_node r = if r.doomed then None else option_map Child r.name

-- the node of p itself, or of a child row of p
abbrev pub node_in : List Row → ℕ → ℕ → Option Node
node_in rows p x = if x == p then Some Own else option_and_then child_node (row_of rows x)

-- a child in a collection, with what it was given, as a list of one or none
abbrev pub in_collection : ChildName → List Give → List DynChild
in_collection c gives = if is_some c.coll then record { name = c; gives = gives } ∷ [] else []

-- a row as a child in a collection, if it is one that isn't doomed
abbrev pub dynamic_child : Row → List DynChild
dynamic_child r =
    if r.doomed then []
    else elim r.name as (λ _. List DynChild) [ None ↦ [] | Some c ↦ in_collection c r.gives ]

-- the children of p in its collections that aren't doomed, as the realm graph takes them in
abbrev pub dynamic_children : List Row → ℕ → List DynChild
dynamic_children rows p = flat_map dynamic_child (kids rows p None)
