use Rattle.std.proofs.Common.{Err, sym, ◌∙◌, ap}
use Rattle.std.proofs.lemmas.Result.{on_ok_weaker}
use Rattle.cm_storage.specs.declared.fault.StorageFault.TheVariants.{NoStorageOffer}
use Rattle.cm_storage.specs.Way.{Ends, by_offer}
use Rattle.cm_storage.proofs.lemmas.Lines.{fault_told}
use Rattle.cm_storage.proofs.children.push_named.Goals as goal

pub returns-in_ok-place-in-None-clause-told : goal.returns-in_ok-place-in-None-clause-told
returns-in_ok-place-in-None-clause-told g c =
    on_ok_weaker c.push_refused.result
    (fault_told (g.V.View.rows c.args.view.now) (g.V.View.builtins c.args.view.now) c.args.top.now.inc (NoStorageOffer c.in_ok-place-in-None.place) _ c.args.child.now c.args.text.now c.push_refused.new.text
    (ap (by_offer (g.V.View.rows c.args.view.now) c.args.top.now.inc c.args.top.now.offers) (sym c.in-None.ensures) ∙ ap (λ m. Ends (Err (NoStorageOffer m))) (sym c.in_ok-place-in-None.ensures)))
    c.push_refused.ensures
