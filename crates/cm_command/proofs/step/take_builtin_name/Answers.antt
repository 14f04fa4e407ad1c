use Rattle.cm_command.proofs.lemmas.line.Step.{builtin_name_fault}
use Rattle.cm_command.proofs.step.take_builtin_name.Goals as goal

pub returns-in-Err : goal.returns-in-Err
returns-in-Err c = builtin_name_fault c.args.kind c.args.word.now c.in-Err.fault c.in-Err.ensures
