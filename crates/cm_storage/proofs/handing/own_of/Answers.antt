use Rattle.std.proofs.Common.{sym, ap, subst}
use Rattle.std.specs.Option.{option_copied}
use Rattle.std.specs.Prelude.{IfOk}
use Rattle.cm_storage.specs.declared.fault.StorageFault.TheVariants.{NoStorage}
use Rattle.cm_storage.specs.ParentAtHand.{IsKnown}
use Rattle.cm_storage.specs.Way.{by_storage}
use Rattle.cm_storage.proofs.lemmas.Knowing.{known_refused}
use Rattle.cm_storage.proofs.handing.own_of.Goals as goal

pub returns-in_ok-place-in-None : goal.returns-in_ok-place-in-None
returns-in_ok-place-in-None g c =
    subst (λ o. IfOk c.refused.result (IsKnown (g.V.View.rows c.args.view.now) (g.V.View.builtins c.args.view.now) c.args.inc (by_storage (g.V.View.rows c.args.view.now) c.args.inc (option_copied o)))) (sym c.in-None.is)
    (known_refused (g.V.View.rows c.args.view.now) (g.V.View.builtins c.args.view.now) c.args.inc _ _ c.refused.result (ap NoStorage c.in_ok-place-in-None.ensures) c.refused.ensures)
