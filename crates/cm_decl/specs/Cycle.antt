-- Promised.
-- The cycle that is told where a graph has some: the same one for everyone who looks.
use Rattle.std.specs.Prelude.{◌≡◌, List, [], ◌∷◌, ◌++◌, Bool, false, IsTrue, ◌⊎◌}
use Rattle.std.specs.List.{list_any, list_all}
use Rattle.cm_decl.specs.declared.node.Node.{Node}
use Rattle.cm_decl.specs.Same.{same_node}
use Rattle.cm_decl.specs.NodeOrder.{node_at_most}
use Rattle.cm_decl.specs.Reach.{DependencyPath, Reaches}

-- each node of the set depends directly on some node of the set, so one can go on in it for ever
abbrev pub IsSupported : (Node → Node → Bool) → (Node → Bool) → Type 0
IsSupported edge set = (x : Node) → IsTrue (set x) → (y : Node) × IsTrue (set y) × IsTrue (edge x y)

-- the node is in some such set: it is on a cycle, or leads to one
abbrev pub InCore : (Node → Node → Bool) → Node → Type 0
InCore edge x = (set : Node → Bool) × IsTrue (set x) × IsSupported edge set

-- P holds of this node, and of none that comes before it in the order of nodes
abbrev pub IsLeast : (Node → Type 0) → Node → Type 0
IsLeast P x = P x × ((y : Node) → P y → IsTrue (node_at_most x y))

-- y is the least node of the core on which x directly depends
abbrev pub NextInCore : (Node → Node → Bool) → Node → Node → Type 0
NextInCore edge x y = IsLeast (λ z. InCore edge z × IsTrue (edge x z)) y

-- the cycle that is told: from the least node of the core on, each node is followed by the least one
-- that it depends on; this is the cycle that is so reached, from its least node back to it
pub record IsPickedCycle (edge : Node → Node → Bool) (cycle : List Node) : Type 0 where
  pub start : Node
  pub least_of_core : IsLeast (InCore edge) start
  pub head : Node
  pub others : List Node
  pub reached : (start ≡ head) ⊎ Reaches (NextInCore edge) start head
  pub loop : DependencyPath (NextInCore edge) head others head
  pub once : list_any (same_node head) others ≡ false
  pub least : IsTrue (list_all (node_at_most head) others)
  pub whole : cycle ≡ head ∷ others ++ head ∷ []
