use Rattle.cm_command.proofs.lemmas.line.Step.{builtin_kind_fault}
use Rattle.cm_command.proofs.step.take_builtin_kind.Goals as goal

pub returns-in-Err : goal.returns-in-Err
returns-in-Err c = builtin_kind_fault c.args.word.now c.in-Err.fault c.in-Err.ensures
