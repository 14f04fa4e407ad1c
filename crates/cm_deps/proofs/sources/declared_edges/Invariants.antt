use Rattle.std.proofs.Common.{◌≡◌, ℕ, ◌<◌, [], length}
use Rattle.cm_decl.specs.Graph.{sources_of}
use Rattle.cm_deps.specs.Edges.{row}
use Rattle.cm_deps.specs.Nodes.{at}
use Rattle.cm_deps.specs.Sources.{Lists}
use Rattle.cm_deps.proofs.sources.declared_edges.Given as goal

abbrev pub invariant-loop-node : goal.invariant-loop-node
invariant-loop-node l = record {
  size : length l.rows.items ≡ l.node-index;
  sources : (i : ℕ) → i < l.node-index → Lists l.nodes (sources_of l.decl [] (at l.nodes i)) (row l.rows.items i);
}
