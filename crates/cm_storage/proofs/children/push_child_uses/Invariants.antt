use Rattle.cm_storage.specs.Report.{UsesTold}
use Rattle.cm_storage.specs.ParentAtHand.{StaysStanding}
use Rattle.cm_storage.proofs.lemmas.Telling.{HasTold}
use Rattle.cm_storage.proofs.children.push_child_uses.Given as goal

abbrev pub invariant-loop-usage : goal.invariant-loop-usage
invariant-loop-usage g l = record {
  told : HasTold (UsesTold (g.V.View.rows l.view) (g.V.View.builtins l.view) l.told.inc) l.uses l.usage-index l.fn.text l.text;
  top : StaysStanding (g.V.View.rows l.view) (g.V.View.builtins l.view) l.fn.top l.top;
}
