-- Inside.
-- What checking a realm graph for cycles comes to.
use Rattle.std.specs.Prelude.{List}
use Rattle.cm_decl.specs.declared.decl.Decl.{Decl}
use Rattle.cm_decl.specs.declared.node.DynChild.{DynChild}
use Rattle.cm_decl.specs.Graph.{is_strong_edge}
use Rattle.cm_decl.specs.GraphInside.{IsTopologicalOrder, realm}
use Rattle.cm_decl.specs.Cycle.{IsPickedCycle}
use Rattle.cm_deps.specs.declared.outcome.Order.{Order}
use Rattle.cm_deps.specs.declared.outcome.Order.TheVariants.{Ordered, Cycle}

-- an order of the realm graph, implied edges included; or the cycle of strong edges that is told
abbrev pub IsOutcome : Decl → List DynChild → Order → Type 0
IsOutcome d dynamic (Ordered order) = IsTopologicalOrder (realm d dynamic) order
IsOutcome d dynamic (Cycle cycle) = IsPickedCycle (is_strong_edge d dynamic) cycle
