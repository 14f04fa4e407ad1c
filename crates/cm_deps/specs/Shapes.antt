-- Inside.
-- What checking a graph of numbered nodes for cycles comes to.
use Rattle.std.specs.Prelude.{ℕ, List}
use Rattle.cm_deps.specs.declared.order.Shape.{Shape}
use Rattle.cm_deps.specs.declared.order.Shape.TheVariants.{Ordered, Ring}
use Rattle.cm_deps.specs.Edges.{holds, IsToposorted}
use Rattle.cm_deps.specs.Ring.{IsRing}
use Rattle.cm_deps.specs.Implied.{IsOrderedGraph}

-- the cycle that is told of the nodes which the topological sort left
pub record IsLeftRing (after : List (List ℕ)) (ring : List ℕ) : Type 0 where
  pub listed : List ℕ
  pub toposorted : IsToposorted after listed
  pub picked : IsRing after (holds listed) ring

-- an order of the graph with its implied edges, or the cycle that is told
abbrev pub IsShape : List (List ℕ) → Shape → Type 0
IsShape after (Ordered full order) = IsOrderedGraph after full.items order.items
IsShape after (Ring ring) = IsLeftRing after ring.items
