use Rattle.cm_manager.proofs.lemmas.calling.Doings.{did_start, launched_for}
use Rattle.cm_manager.proofs.work.launch.Goals as goal

pub returns-in-Some-clause-did : goal.returns-in-Some-clause-did
returns-in-Some-clause-did g c = λ manifests.
    launched_for manifests c.args.work c.in-Some.job c.launch-answer.result c.launched.result _ _ (rw c.in-Some.is at c.job_for-job.ensures.job) c.launched.ensures c.launch-answer.ensures.log c.launch-answer.ensures.later c.launch-answer.ensures.fault

pub returns-in-None-clause-did : goal.returns-in-None-clause-did
returns-in-None-clause-did g c = λ manifests. did_start manifests c.args.work _ (rw c.in-None.is at c.job_for-job.ensures.job)
