use Rattle.std.proofs.Common.{refl}
use Rattle.cm_manager.proofs.work.job_for.Goals as goal

pub returns-in-Some-clause-job : goal.returns-in-Some-clause-job
returns-in-Some-clause-job c = (c.in-Some.runner, c.in-Some.is, refl)

pub returns-in-None-clause-job : goal.returns-in-None-clause-job
returns-in-None-clause-job c = c.in-None.is
