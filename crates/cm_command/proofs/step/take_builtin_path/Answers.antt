use Rattle.cm_command.proofs.lemmas.line.Step.{builtin_path_fault}
use Rattle.cm_command.proofs.step.take_builtin_path.Goals as goal

pub returns-in-Err : goal.returns-in-Err
returns-in-Err c = builtin_path_fault c.args.name c.args.word.now c.in-Err.fault c.in-Err.ensures
