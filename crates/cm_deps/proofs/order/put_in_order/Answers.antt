use Rattle.std.proofs.Common.{sym, ◌∙◌, ap, subst}
use Rattle.cm_deps.specs.Edges.{holds, IsToposorted}
use Rattle.cm_deps.specs.Implied.{IsFull, IsOrderedGraph}
use Rattle.cm_deps.proofs.lemmas.listed.Shaping.{reach_inside, ordered}
use Rattle.cm_deps.proofs.order.put_in_order.Goals as goal

pub with_implied-requires-clause-inside : goal.with_implied-requires-clause-inside
with_implied-requires-clause-inside c = λ x held.
    reach_inside c.args.after.now 0 c.in_ok-reached.reached.items c.requires.below c.in_ok-reached.ensures x (ap (λ l. holds l x) (sym c.as_slice.ensures.value) ∙ held)

pub returns : goal.returns
returns c =
    let edges : IsFull c.args.after.now c.in_ok-reached.reached.items c.in_ok-full.full.items = subst (λ l. IsFull c.args.after.now l c.in_ok-full.full.items) c.as_slice.ensures.value c.in_ok-full.ensures in
    let again : IsToposorted c.in_ok-full.full.items c.in_ok-order.order.items = subst (λ l. IsToposorted l c.in_ok-order.order.items) c.as_slice-2.ensures.value c.in_ok-order.ensures in
    subst (λ l. IsOrderedGraph c.args.after.now c.in_ok-full.full.items l) (sym c.reverse.ensures.items)
    (ordered c.args.after.now c.args.listed.now c.in_ok-reached.reached.items c.in_ok-full.full.items c.in_ok-order.order.items c.requires.below c.requires.some c.requires.toposorted c.requires.all c.in_ok-reached.ensures edges again)
