use Rattle.std.proofs.Common.{◌∙◌, sym, ap, subst}
use Rattle.cm_table.specs.Named.{IsNameOrder}
use Rattle.cm_table.specs.Uses.{AreOrders, AreKeptOrders}
use Rattle.cm_table.proofs.ordered.capability_in.Goals as goal

pub find_named-requires : goal.find_named-requires
find_named-requires c =
    let own : AreOrders c.args.decl.now c.in-Some.orders = subst (AreKeptOrders c.args.decl.now) c.in-Some.is c.requires in
    let places = c.as_slice.ensures.value ∙ ap (λ o. o.capabilities.items) c.get.ensures in
    subst (λ l. IsNameOrder (λ x. x.name) (λ x. x.kind) l c.as_slice.result.now) (sym c.as_slice-capabilities.ensures)
    (subst (IsNameOrder (λ x. x.name) (λ x. x.kind) c.args.decl.now.capabilities) (sym places) own.capabilities)
