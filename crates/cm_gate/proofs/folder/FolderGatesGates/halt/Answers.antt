use Rattle.cm_gate.proofs.folder.FolderGatesGates.halt.Goals as goal

pub returns-clause-failed : goal.returns-clause-failed
returns-clause-failed g c = rw (← c.self.view_is) c.halt_by-answer.ensures.failed
