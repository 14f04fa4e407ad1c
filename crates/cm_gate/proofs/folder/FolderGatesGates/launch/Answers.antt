use Rattle.cm_gate.proofs.folder.FolderGatesGates.launch.Goals as goal

pub returns-clause-failed : goal.returns-clause-failed
returns-clause-failed g c = rw (← c.self.view_is) c.launch_by-answer.ensures.failed
