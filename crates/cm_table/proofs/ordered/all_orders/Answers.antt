use Rattle.std.proofs.Common.{subst}
use Rattle.cm_table.specs.Named.{IsNameOrder}
use Rattle.cm_table.specs.Offers.{IsOfferOrder}
use Rattle.cm_table.specs.Uses.{IsUseOrder}
use Rattle.cm_table.proofs.ordered.all_orders.Goals as goal

pub returns : goal.returns
returns c = record {
  offers = subst (λ l. IsOfferOrder l c.in_ok-offers.offers.items) c.as_slice.ensures c.in_ok-offers.ensures;
  uses = subst (λ l. IsUseOrder l c.in_ok-uses.uses.items) c.as_slice-2.ensures c.in_ok-uses.ensures;
  exposes = subst (λ l. IsNameOrder (λ g. g.target_name) (λ g. g.kind) l c.in_ok-exposes.exposes.items) c.as_slice-3.ensures c.in_ok-exposes.ensures;
  capabilities = subst (λ l. IsNameOrder (λ x. x.name) (λ x. x.kind) l c.in_ok-capabilities.capabilities.items) c.as_slice-4.ensures c.in_ok-capabilities.ensures;
}
