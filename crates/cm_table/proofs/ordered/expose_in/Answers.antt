use Rattle.std.proofs.Common.{◌∙◌, sym, ap, subst}
use Rattle.cm_table.specs.Named.{IsNameOrder}
use Rattle.cm_table.specs.Uses.{AreOrders, AreKeptOrders}
use Rattle.cm_table.proofs.ordered.expose_in.Goals as goal

pub find_named-requires : goal.find_named-requires
find_named-requires c =
    let own : AreOrders c.args.decl.now c.in-Some.orders = subst (AreKeptOrders c.args.decl.now) c.in-Some.is c.requires in
    let places = c.as_slice.ensures.value ∙ ap (λ o. o.exposes.items) c.get.ensures in
    subst (λ l. IsNameOrder (λ x. x.target_name) (λ x. x.kind) l c.as_slice.result.now) (sym c.as_slice-exposes.ensures)
    (subst (IsNameOrder (λ x. x.target_name) (λ x. x.kind) c.args.decl.now.exposes) (sym places) own.exposes)
