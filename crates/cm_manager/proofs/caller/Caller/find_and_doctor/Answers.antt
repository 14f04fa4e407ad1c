use Rattle.std.proofs.Common.{refl}
use Rattle.std.proofs.lemmas.Result.{err_from_is_err_and}
use Rattle.cm_command.specs.declared.command.Command.TheVariants as command
use Rattle.cm_manager.specs.Doctor.{Doctors}
use Rattle.cm_manager.proofs.lemmas.callers.CallerRuns.{performs_found, performs_missed}
use Rattle.cm_manager.proofs.caller.Caller.find_and_doctor.Goals as goal

pub returns : goal.returns
returns g c =
    performs_found _ Doctors (command.Doctor c.args.target.now) (λ f n x y a on. on) _ _ _ _ _ _ refl c.in_ok-inc.ensures c.doctor_at.ensures

pub returns-in_err-inc : goal.returns-in_err-inc
returns-in_err-inc g c =
    let p = err_from_is_err_and c.from_residual.result c.from_residual.ensures.1 in
    rw (p.1, p.2)
    (performs_missed _ Doctors (command.Doctor c.args.target.now) (λ f n x y a on. on) _ _ _ _ refl c.in_err-inc.ensures)
