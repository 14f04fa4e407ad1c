use Rattle.std.proofs.Common.{◌∷◌, [], ◌++◌, get_or, sym, ◌∙◌, ap}
use Rattle.cm_deps.specs.Nodes.{at}
use Rattle.cm_deps.proofs.lemmas.given.Outcomes.{nodes_more}
use Rattle.cm_deps.proofs.lemmas.listed.Listing.{holds_at}
use Rattle.cm_deps.proofs.outcome.nodes_at.Goals as goal

pub node_at-requires : goal.node_at-requires
node_at-requires c = c.requires (get_or c.args.numbers.now c.loop-number.number-index 0) (holds_at c.args.numbers.now c.loop-number.number-index c.loop-number-test.true)

pub loop-number-preserved : goal.loop-number-preserved
loop-number-preserved c =
    c.in_ok-push.ensures.ok ∙ ap (λ x. c.loop-number.list ++ x ∷ []) c.in_ok-node_at.ensures ∙
    ap (λ l. l ++ at c.args.nodes.now (get_or c.args.numbers.now c.loop-number.number-index 0) ∷ []) c.loop-number.invariant ∙
    sym (nodes_more c.args.nodes.now c.args.numbers.now c.loop-number.number-index c.loop-number-test.true)
