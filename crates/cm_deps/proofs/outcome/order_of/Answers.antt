use Rattle.std.proofs.Common.{◌≡◌, ◌<◌, List, [], ◌∷◌, ◌++◌, length, sym, ◌∙◌, ap, subst, get_or}
use Rattle.std.specs.Prelude.{map}
use Rattle.cm_decl.specs.declared.node.Node.{Node}
use Rattle.cm_deps.specs.Edges.{holds, IsBelow}
use Rattle.cm_deps.specs.Implied.{IsOrderedGraph}
use Rattle.cm_deps.specs.Nodes.{at}
use Rattle.cm_deps.specs.Shapes.{IsShape, IsLeftRing}
use Rattle.cm_deps.proofs.lemmas.given.Outcomes.{realm_below, realm_some, order_inside, order_made, ring_inside, ring_some, cycle_made}
use Rattle.cm_deps.proofs.outcome.order_of.Goals as goal

pub arrange-requires-clause-below : goal.arrange-requires-clause-below
arrange-requires-clause-below c =
    let r = c.in_ok-nodes.field-0 in
    subst (λ l. IsBelow l (length l)) (sym c.as_slice.ensures.value) (realm_below c.args.decl.now c.args.dynamic.now r.nodes.items r.after.items c.in_ok-nodes.ensures.nodes c.in_ok-nodes.ensures.edges)

pub arrange-requires-clause-some : goal.arrange-requires-clause-some
arrange-requires-clause-some c =
    let r = c.in_ok-nodes.field-0 in
    subst (λ l. 0 < length l) (sym c.as_slice.ensures.value) (realm_some c.args.decl.now c.args.dynamic.now r.nodes.items r.after.items c.in_ok-nodes.ensures.nodes c.in_ok-nodes.ensures.edges)

pub nodes_at-requires : goal.nodes_at-requires
nodes_at-requires c =
    let r = c.in_ok-nodes.field-0 in
    let is : IsOrderedGraph r.after.items c.in-Ordered.full.items c.in-Ordered.order.items = subst (IsShape r.after.items) c.in-Ordered.is (subst (λ l. IsShape l c.in_ok-order.field-0) c.as_slice.ensures.value c.in_ok-order.ensures) in
    λ i held. subst (λ (l : List Node). i < length l) (sym c.as_slice-in-Ordered.ensures.value)
    (order_inside c.args.decl.now c.args.dynamic.now r.nodes.items r.after.items c.in-Ordered.full.items c.in-Ordered.order.items c.in_ok-nodes.ensures.edges is i (ap (λ l. holds l i) (sym c.as_slice-in-Ordered-2.ensures.value) ∙ held))

pub returns-in-Ordered : goal.returns-in-Ordered
returns-in-Ordered c =
    let r = c.in_ok-nodes.field-0 in
    let is : IsOrderedGraph r.after.items c.in-Ordered.full.items c.in-Ordered.order.items = subst (IsShape r.after.items) c.in-Ordered.is (subst (λ l. IsShape l c.in_ok-order.field-0) c.as_slice.ensures.value c.in_ok-order.ensures) in
    let list : c.in_ok-nodes_at-in-Ordered.field-0 ≡ map (at r.nodes.items) c.in-Ordered.order.items =
    c.in_ok-nodes_at-in-Ordered.ensures ∙ ap (λ l. map (at l) c.as_slice-in-Ordered-2.result.now) c.as_slice-in-Ordered.ensures.value ∙ ap (map (at r.nodes.items)) c.as_slice-in-Ordered-2.ensures.value in
    order_made c.args.decl.now c.args.dynamic.now r.nodes.items r.after.items c.in-Ordered.full.items c.in-Ordered.order.items c.in_ok-nodes_at-in-Ordered.field-0 c.in_ok-nodes.ensures.nodes c.in_ok-nodes.ensures.edges is list

pub cycle_at-requires-clause-inside : goal.cycle_at-requires-clause-inside
cycle_at-requires-clause-inside c =
    let r = c.in_ok-nodes.field-0 in
    let is : IsLeftRing r.after.items c.in-Ring.ring.items = subst (IsShape r.after.items) c.in-Ring.is (subst (λ l. IsShape l c.in_ok-order.field-0) c.as_slice.ensures.value c.in_ok-order.ensures) in
    λ i held. subst (λ (l : List Node). i < length l) (sym c.as_slice-in-Ring.ensures.value)
    (ring_inside c.args.decl.now c.args.dynamic.now r.nodes.items r.after.items c.in-Ring.ring.items c.in_ok-nodes.ensures.nodes c.in_ok-nodes.ensures.edges is i (ap (λ l. holds l i) (sym c.as_slice-in-Ring-2.ensures.value) ∙ held))

pub cycle_at-requires-clause-some : goal.cycle_at-requires-clause-some
cycle_at-requires-clause-some c =
    let r = c.in_ok-nodes.field-0 in
    let is : IsLeftRing r.after.items c.in-Ring.ring.items = subst (IsShape r.after.items) c.in-Ring.is (subst (λ l. IsShape l c.in_ok-order.field-0) c.as_slice.ensures.value c.in_ok-order.ensures) in
    subst (λ l. 0 < length l) (sym c.as_slice-in-Ring-2.ensures.value) (ring_some r.after.items c.in-Ring.ring.items is)

pub returns : goal.returns
returns c =
    let r = c.in_ok-nodes.field-0 in
    let is : IsLeftRing r.after.items c.in-Ring.ring.items = subst (IsShape r.after.items) c.in-Ring.is (subst (λ l. IsShape l c.in_ok-order.field-0) c.as_slice.ensures.value c.in_ok-order.ensures) in
    let list : c.in_ok-cycle_at-in-Ring.field-0 ≡ map (at r.nodes.items) c.in-Ring.ring.items ++ at r.nodes.items (get_or c.in-Ring.ring.items 0 0) ∷ [] =
    c.in_ok-cycle_at-in-Ring.ensures ∙ ap (λ l. map (at l) c.as_slice-in-Ring-2.result.now ++ at l (get_or c.as_slice-in-Ring-2.result.now 0 0) ∷ []) c.as_slice-in-Ring.ensures.value ∙
    ap (λ l. map (at r.nodes.items) l ++ at r.nodes.items (get_or l 0 0) ∷ []) c.as_slice-in-Ring-2.ensures.value in
    cycle_made c.args.decl.now c.args.dynamic.now r.nodes.items r.after.items c.in-Ring.ring.items c.in_ok-cycle_at-in-Ring.field-0 c.in_ok-nodes.ensures.nodes c.in_ok-nodes.ensures.edges is list
