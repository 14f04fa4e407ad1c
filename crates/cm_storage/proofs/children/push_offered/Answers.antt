use Rattle.std.proofs.Common.{Err, sym, ◌∙◌, ap}
use Rattle.std.proofs.lemmas.Result.{on_ok_weaker}
use Rattle.cm_storage.specs.declared.fault.StorageFault.TheVariants.{VoidStorage}
use Rattle.cm_storage.specs.Way.{Ends}
use Rattle.cm_storage.proofs.lemmas.Lines.{fault_told, void_step, on_any, stays}
use Rattle.cm_storage.proofs.children.push_offered.Goals as goal

pub returns-in_ok-place-in_default : goal.returns-in_ok-place-in_default
returns-in_ok-place-in_default g c = record {
  told =
      on_ok_weaker c.push_refused.result
      (fault_told (g.V.View.rows c.args.view.now) (g.V.View.builtins c.args.view.now) c.args.top.now.inc (VoidStorage c.in_ok-place-in_default.place) _ c.args.child.now c.args.text.now c.push_refused.new.text
      (void_step (g.V.View.rows c.args.view.now) c.args.top.now.inc c.args.top.now.offers c.args.offer.now.source_name c.args.offer.now.from c.in_default.not-Own c.in_default.not-Parent
      ∙ ap (λ m. Ends (Err (VoidStorage m))) (sym c.in_ok-place-in_default.ensures)))
      c.push_refused.ensures;
  top = on_any c.push_refused.result _ (stays (g.V.View.rows c.args.view.now) (g.V.View.builtins c.args.view.now) c.args.top.now c.requires.top);
}
