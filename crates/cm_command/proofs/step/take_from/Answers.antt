use Rattle.cm_command.proofs.lemmas.line.Step.{from_fault}
use Rattle.cm_command.proofs.step.take_from.Goals as goal

pub returns-in-Err : goal.returns-in-Err
returns-in-Err c = from_fault c.args.creation c.args.kind c.args.name c.args.word.now c.in-Err.fault c.in-Err.ensures
