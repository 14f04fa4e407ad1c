-- Inside.
-- The graph of a declaration that is kept to answer questions on it: who depends on whom, and in which
-- order.
use Rattle.std.specs.Prelude.{ℕ, ◌<◌, List, length, IsTrue, ◌↔◌}
use Rattle.cm_decl.specs.declared.decl.Decl.{Decl}
use Rattle.cm_decl.specs.declared.node.DynChild.{DynChild}
use Rattle.cm_decl.specs.declared.node.Node.{Node}
use Rattle.cm_decl.specs.Graph.{is_node}
use Rattle.cm_decl.specs.GraphInside.{DependsOn}
use Rattle.cm_deps.specs.declared.graph.Graph.{Graph}
use Rattle.cm_deps.specs.Edges.{holds, row}
use Rattle.cm_deps.specs.Nodes.{at, IsNodes}
use Rattle.cm_deps.specs.Sources.{IsOffered}
use Rattle.cm_deps.specs.Outcome.{IsOutcome}

-- for each node the numbers of exactly those that it depends on, directly or through others
abbrev pub IsReachability : Decl → List DynChild → List Node → List (List ℕ) → Type 0
IsReachability d dynamic nodes reached =
    (i j : ℕ) → i < length nodes → j < length nodes →
    IsTrue (holds (row reached i) j) ↔ DependsOn d dynamic (at nodes i) (at nodes j)

-- what is kept is the graph of this declaration with these children of its collections
pub record IsGraphOf (d : Decl) (dynamic : List DynChild) (graph : Graph) : Type 0 where
  pub nodes : IsNodes (is_node d dynamic) graph.nodes.items
  pub offered : IsOffered graph.nodes.items d.offers graph.offered
  pub reached : IsReachability d dynamic graph.nodes.items graph.reached.items
  pub outcome : IsOutcome d dynamic graph.order
