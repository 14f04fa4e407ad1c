use Rattle.std.proofs.Common.{◌≡◌, [], sym, subst}
use Rattle.std.proofs.lemmas.Result.{IfOk-weaker}
use Rattle.cm_decl.specs.declared.node.Node.{Node}
use Rattle.cm_decl.specs.Graph.{sources_of}
use Rattle.cm_deps.specs.Sources.{Lists, numbers_at, strong_sources, offers_of}
use Rattle.cm_deps.proofs.lemmas.given.Sourcing.{child_declared}
use Rattle.cm_deps.proofs.sources.declared_numbers.Goals as goal

pub returns-in-Child : goal.returns-in-Child
returns-in-Child c =
    IfOk-weaker c.offered_numbers.result (λ numbers. numbers ≡ numbers_at c.args.offered.now c.target_of.result.now) (Lists c.args.nodes.now (sources_of c.args.decl.now [] c.args.node.now))
    (λ numbers same. subst (λ (x : Node). Lists c.args.nodes.now (sources_of c.args.decl.now [] x) numbers) (sym c.in-Child.is)
    (child_declared c.args.nodes.now c.args.decl.now c.in-Child.child numbers
    (subst (λ l. Lists c.args.nodes.now (strong_sources (offers_of c.args.decl.now.offers l)) numbers) c.target_of.ensures
    (subst (λ l. Lists c.args.nodes.now (strong_sources (offers_of c.args.decl.now.offers c.target_of.result.now)) l) (sym same) (c.requires.offered c.target_of.result.now)))))
    c.offered_numbers.ensures
