use Rattle.std.proofs.Common.{◌≡◌, [], length, take}
use Rattle.cm_decl.specs.declared.decl.Decl.{Decl}
use Rattle.cm_deps.specs.Sources.{IsEdges}
use Rattle.cm_deps.proofs.sources.add_given.Given as goal

abbrev pub invariant-loop-child : goal.invariant-loop-child
invariant-loop-child l = record {
  size : length l.rows.items ≡ length l.nodes;
  edges : (d : Decl) → IsEdges d [] l.nodes l.initial.rows.items → IsEdges d (take l.child-index l.dynamic) l.nodes l.rows.items;
}
