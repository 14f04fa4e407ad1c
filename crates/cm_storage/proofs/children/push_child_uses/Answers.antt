use Rattle.std.proofs.Common.{subst}
use Rattle.cm_storage.specs.Report.{UsesTold, no_use}
use Rattle.cm_storage.specs.Telling.{TellsUses}
use Rattle.cm_storage.proofs.lemmas.Telling.{told_whole, use_told}
use Rattle.cm_storage.proofs.lemmas.Lines.{stays_on}
use Rattle.cm_storage.proofs.children.push_child_uses.Goals as goal

pub loop-usage-preserved : goal.loop-usage-preserved
loop-usage-preserved g c = record {
  told =
      use_told (g.V.View.rows c.args.view.now) (g.V.View.builtins c.args.view.now) c.args.told.now.inc c.as_slice-uses.result.now c.loop-usage.usage-index c.usage-item.result c.args.text.now c.loop-usage.text c.push_child_use.new.text c.loop-usage-test.true c.usage-item.is c.loop-usage.invariant.told c.in_ok-push_child_use.ensures.told;
  top = stays_on (g.V.View.rows c.args.view.now) (g.V.View.builtins c.args.view.now) c.args.top.now c.loop-usage.top c.push_child_use.new.top c.loop-usage.invariant.top c.in_ok-push_child_use.ensures.top;
}

pub returns-clause-told : goal.returns-clause-told
returns-clause-told g c =
    subst (λ us. TellsUses (g.V.View.rows c.args.view.now) (g.V.View.builtins c.args.view.now) c.args.told.now.inc us c.args.text.now c.loop-usage.text) c.as_slice-uses.ensures
    (told_whole (UsesTold (g.V.View.rows c.args.view.now) (g.V.View.builtins c.args.view.now) c.args.told.now.inc) c.as_slice-uses.result.now c.loop-usage.usage-index c.args.text.now c.loop-usage.text no_use c.loop-usage-test.false c.loop-usage.invariant.told)
