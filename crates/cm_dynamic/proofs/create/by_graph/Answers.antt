use Rattle.std.proofs.Common.{subst, arith}
use Rattle.cm_deps.specs.Outcome.{IsOutcome}
use Rattle.cm_deps.specs.declared.outcome.Order.{Order}
use Rattle.cm_dynamic.proofs.lemmas.graphs.Graphs.{is_full, may_be}
use Rattle.cm_dynamic.proofs.create.by_graph.Goals as goal

pub returns-then-free-eq0 : goal.returns-then-free-eq0
returns-then-free-eq0 c =
    is_full c.args.decl.now c.args.children.now c.in-Ordered.field-0 c.args.free (subst (λ (o : Order). IsOutcome c.args.decl.now c.args.children.now o) c.in-Ordered.is c.in_ok-nodes.ensures) (omega arith)

pub returns : goal.returns
returns c =
    may_be c.args.decl.now c.args.children.now c.in-Ordered.field-0 c.args.free (subst (λ (o : Order). IsOutcome c.args.decl.now c.args.children.now o) c.in-Ordered.is c.in_ok-nodes.ensures) (omega arith)
