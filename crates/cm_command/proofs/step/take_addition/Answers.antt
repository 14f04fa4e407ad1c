use Rattle.cm_command.proofs.lemmas.line.Step.{addition_fault}
use Rattle.cm_command.proofs.step.take_addition.Goals as goal

pub returns-in-Err : goal.returns-in-Err
returns-in-Err c = addition_fault c.args.creation c.args.give c.args.from c.args.word.now c.in-Err.fault c.in-Err.ensures
