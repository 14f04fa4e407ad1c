use Rattle.std.proofs.Common.{◌≡◌, ◌||◌, take}
use Rattle.std.specs.List.{list_any}
use Rattle.std.specs.BTreeSet as set
use Rattle.cm_decl.specs.declared.node.Node.{Node}
use Rattle.cm_decl.specs.Graph.{static_node}
use Rattle.cm_decl.specs.NodeOrder.{node_cmp}
use Rattle.cm_decl.specs.Same.{same_node}
use Rattle.cm_deps.proofs.nodes.put_declared.Given as goal

abbrev pub invariant-loop-child : goal.invariant-loop-child
invariant-loop-child l = (x : Node) → set.contains node_cmp l.nodes x ≡ (set.contains node_cmp l.initial.nodes x || list_any (λ r. same_node (static_node r) x) (take l.child-index l.children))
