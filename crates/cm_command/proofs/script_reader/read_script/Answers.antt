use Rattle.std.proofs.Common.{refl}
use Rattle.cm_command.proofs.lemmas.scripts.Lines.{ended_ok, ended_fault}
use Rattle.cm_command.proofs.script_reader.read_script.Goals as goal

pub returns-clause-ok : goal.returns-clause-ok
returns-clause-ok c = ended_ok c.finish.result c.in_ok-number.ensures.ok refl c.finish.ensures

pub returns-clause-fault : goal.returns-clause-fault
returns-clause-fault c = ended_fault c.finish.result c.in_ok-number.ensures.ok refl c.finish.ensures
