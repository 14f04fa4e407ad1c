use Rattle.cm_program.proofs.lemmas.texts.Stock.{fault_of_script, fit_of_script}
use Rattle.cm_program.proofs.stock.serve.Goals as goal

pub returns-clause-bad : goal.returns-clause-bad
returns-clause-bad c = fault_of_script c.args.bytes c.in_ok-script.script _ c.in_ok-script.ensures.ok c.serve_script.ensures

pub returns-clause-fit : goal.returns-clause-fit
returns-clause-fit c = fit_of_script c.args.bytes c.in_ok-script.script _ c.in_ok-script.ensures.ok c.serve_script.ensures
