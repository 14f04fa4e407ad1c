use Rattle.cm_command.proofs.lemmas.line.Step.{builtin_rights_fault}
use Rattle.cm_command.proofs.step.take_builtin_rights.Goals as goal

pub returns-in-Err : goal.returns-in-Err
returns-in-Err c = builtin_rights_fault c.args.name c.args.path c.args.word.now c.in-Err.fault c.in-Err.ensures
