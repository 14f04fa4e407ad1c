use Rattle.cm_program.proofs.lemmas.whole.Reporting.{report_on}
use Rattle.cm_program.proofs.performing.report_of.Goals as goal

pub returns-in-Ok : goal.returns-in-Ok
returns-in-Ok c =
    report_on c.args.wanted c.args.realm.now c.tree.result.now.rows c.tree.result.now.builtins c.in-Ok.report c.tree.ensures.rows c.tree.ensures.builtins c.in-Ok.ensures
