use Rattle.cm_manager.proofs.lemmas.calling.Doings.{did_stop, halted_for}
use Rattle.cm_manager.proofs.work.halt.Goals as goal

pub returns-in-Some-clause-did : goal.returns-in-Some-clause-did
returns-in-Some-clause-did g c = λ manifests.
    halted_for manifests c.args.work c.in-Some.job c.halt-answer.result c.halted.result _ _ (rw c.in-Some.is at c.job_for-job.ensures.job) c.halted.ensures c.halt-answer.ensures.log c.halt-answer.ensures.later c.halt-answer.ensures.fault

pub returns-in-None-clause-did : goal.returns-in-None-clause-did
returns-in-None-clause-did g c = λ manifests. did_stop manifests c.args.work _ (rw c.in-None.is at c.job_for-job.ensures.job)
