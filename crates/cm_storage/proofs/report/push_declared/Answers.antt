use Rattle.std.proofs.Common.{[], sym, subst, append-nil}
use Rattle.std.specs.Prelude.{string_bytes}
use Rattle.cm_storage.specs.Report.{UsesTold, no_use}
use Rattle.cm_storage.proofs.report.push_declared.Goals as goal

pub returns-then-is_empty-clause-told : goal.returns-then-is_empty-clause-told
returns-then-is_empty-clause-told g c = (
  [],
  subst (λ us. UsesTold (g.V.View.rows c.args.view.now) (g.V.View.builtins c.args.view.now) c.args.inc us []) (sym (c.is_empty.ensures.0 c.if-is_empty.true)) no_use,
  sym (append-nil (string_bytes c.args.text.now)),
)
