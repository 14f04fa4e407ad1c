use Rattle.cm_gate.proofs.folder.halt_by.Goals as goal

pub returns-in-Some-clause-failed : goal.returns-in-Some-clause-failed
returns-in-Some-clause-failed g c = rw c.in-Some.is c.halt.ensures.failed
