use Rattle.std.proofs.Common.{◌≡◌, Ok, subst}
use Rattle.cm_command.specs.declared.script.Script.{Script}
use Rattle.cm_call.specs.Generated.{script_of}
use Rattle.cm_program.specs.Stock.{served_script}
use Rattle.cm_program.proofs.lemmas.lanes.OwnScript.{own_fit}
use Rattle.cm_program.proofs.generate.serve_generated.Goals as goal

pub returns-in-Ok-clause-good : goal.returns-in-Ok-clause-good
returns-in-Ok-clause-good c = subst (λ (s : Script). served_script s ≡ Ok c.in-Ok.served) c.in_ok-script.ensures c.in-Ok.ensures

pub returns-in-Ok-clause-fit : goal.returns-in-Ok-clause-fit
returns-in-Ok-clause-fit c =
    let asks : served_script (script_of c.args.workload.seed c.args.workload.size) ≡ Ok c.in-Ok.served = subst (λ (s : Script). served_script s ≡ Ok c.in-Ok.served) c.in_ok-script.ensures c.in-Ok.ensures in
    own_fit c.args.workload.seed c.args.workload.size c.in-Ok.served asks
