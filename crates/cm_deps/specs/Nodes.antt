-- Inside.
-- The nodes of a realm graph in increasing order, and their numbers: their places in that order.
use Rattle.std.specs.Prelude.{◌≡◌, ℕ, ◌<◌, List, Bool, length, get_or}
use Rattle.std.specs.List.{list_any}
use Rattle.std.specs.List.Sorted.{IsStrictlySortedBy}
use Rattle.cm_decl.specs.declared.node.Node.{Node}
use Rattle.cm_decl.specs.declared.node.Node.TheVariants.{Own}
use Rattle.cm_decl.specs.Same.{same_node}
use Rattle.cm_decl.specs.NodeOrder.{node_cmp}

-- the node with this number: that at its place in the order
abbrev pub at : List Node → ℕ → Node
at nodes i = get_or nodes i Own

-- each node is less than those after it
abbrev pub IsIncreasing : List Node → Type 0
IsIncreasing nodes = IsStrictlySortedBy node_cmp nodes

-- exactly the nodes of a graph, each once, in increasing order
pub record IsNodes (has : Node → Bool) (nodes : List Node) : Type 0 where
  pub increasing : IsIncreasing nodes
  pub all : (x : Node) → list_any (same_node x) nodes ≡ has x

-- i is the number of node x
pub record IsNodeNumber (nodes : List Node) (x : Node) (i : ℕ) : Type 0 where
  pub inside : i < length nodes
  pub there : at nodes i ≡ x
