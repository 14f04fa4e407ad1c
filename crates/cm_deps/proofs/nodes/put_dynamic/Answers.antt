use Rattle.std.proofs.Common.{◌≡◌, ap, rules}
use Rattle.std.specs.BTreeSet as set
use Rattle.cm_decl.specs.declared.node.Node.{Node}
use Rattle.cm_decl.specs.declared.node.Node.TheVariants.{Child}
use Rattle.cm_decl.specs.Graph.{dynamic_node}
use Rattle.cm_decl.specs.NodeOrder.{node_cmp}
use Rattle.cm_deps.proofs.lemmas.numbers.Placing.{placed_none, placed_more, placed_end}
use Rattle.cm_deps.proofs.nodes.put_dynamic.Goals as goal

pub loop-child-init : goal.loop-child-init
loop-child-init c = placed_none dynamic_node c.args.children.now (λ x. set.contains node_cmp c.args.nodes.now x)

pub loop-child-preserved : goal.loop-child-preserved
loop-child-preserved c =
    let key : Node = Child c.in_ok-name.name in
    let is : key ≡ dynamic_node c.child-item.result = ap Child (search rules) in
    placed_more dynamic_node c.args.children.now c.loop-child.child-index c.child-item.result key (λ x. set.contains node_cmp c.args.nodes.now x) (λ x. set.contains node_cmp c.loop-child.nodes x) (λ x. set.contains node_cmp c.insert.new.self x)
    c.loop-child-test.true c.child-item.is is c.loop-child.invariant c.in_ok-insert.ensures.updates.0

pub returns : goal.returns
returns c =
    placed_end dynamic_node c.args.children.now c.loop-child.child-index (λ x. set.contains node_cmp c.args.nodes.now x) (λ x. set.contains node_cmp c.loop-child.nodes x) c.loop-child.auto.child-index-end c.loop-child-test.false c.loop-child.invariant
