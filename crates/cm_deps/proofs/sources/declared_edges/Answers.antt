use Rattle.std.proofs.Common.{◌≡◌, [], sym, ◌∙◌, subst, arith}
use Rattle.std.proofs.lemmas.List.{get_or_default}
use Rattle.cm_decl.specs.declared.node.Node.{Node}
use Rattle.cm_decl.specs.declared.node.Node.TheVariants.{Own}
use Rattle.cm_decl.specs.Graph.{sources_of}
use Rattle.cm_deps.specs.Edges.{row}
use Rattle.cm_deps.specs.Nodes.{at}
use Rattle.cm_deps.specs.Sources.{Lists}
use Rattle.cm_deps.proofs.lemmas.given.Sourcing.{rows_more}
use Rattle.cm_deps.proofs.sources.declared_edges.Goals as goal

pub loop-node-preserved : goal.loop-node-preserved
loop-node-preserved c =
    let node : c.node-item.result ≡ at c.args.nodes.now c.loop-node.node-index = c.node-item.is ∙ sym (get_or_default c.args.nodes.now c.loop-node.node-index Own c.node-item.result c.loop-node-test.true) in
    let last : Lists c.args.nodes.now (sources_of c.args.decl.now [] (at c.args.nodes.now c.loop-node.node-index)) c.in_ok-declared_numbers.field-0 =
    subst (λ (x : Node). Lists c.args.nodes.now (sources_of c.args.decl.now [] x) c.in_ok-declared_numbers.field-0) node c.in_ok-declared_numbers.ensures in
    record {
      size = omega (arith, c.in_ok-push.ensures.len, c.loop-node.invariant.size);
      sources = λ i low. subst (λ l. Lists c.args.nodes.now (sources_of c.args.decl.now [] (at c.args.nodes.now i)) (row l i)) (sym c.in_ok-push.ensures.items)
          (rows_more (λ k l. Lists c.args.nodes.now (sources_of c.args.decl.now [] (at c.args.nodes.now k)) l) c.loop-node.rows.items c.loop-node.node-index c.in_ok-declared_numbers.field-0 c.loop-node.invariant.size c.loop-node.invariant.sources last i low);
    }
