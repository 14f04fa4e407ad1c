use Rattle.std.proofs.Common.{◌≡◌, sym, subst, false}
use Rattle.std.specs.Prelude.{IfSome, IfNone}
use Rattle.std.specs.List.{list_any}
use Rattle.cm_decl.specs.Same.{same_node}
use Rattle.cm_deps.specs.Nodes.{IsNodeNumber}
use Rattle.cm_deps.proofs.lemmas.numbers.Placing.{number_some, number_none}
use Rattle.cm_deps.proofs.nodes.number.Goals as goal

pub returns-clause-some : goal.returns-clause-some
returns-clause-some c =
    subst (λ r. IfSome r (IsNodeNumber c.args.nodes.now c.args.node.now)) (sym c.ok.ensures.value)
    (number_some c.args.nodes.now c.args.node.now c.binary_search.result c.binary_search.ensures.bound c.binary_search.ensures.ok)

pub returns-clause-none : goal.returns-clause-none
returns-clause-none c = λ increasing.
    subst (λ r. IfNone r (list_any (same_node c.args.node.now) c.args.nodes.now ≡ false)) (sym c.ok.ensures.value)
    (number_none c.args.nodes.now c.args.node.now c.binary_search.result increasing c.binary_search.ensures.position)
