use Rattle.cm_command.proofs.lemmas.line.Step.{streaming_fault}
use Rattle.cm_command.proofs.step.take_streaming.Goals as goal

pub returns-in-Err : goal.returns-in-Err
returns-in-Err c = streaming_fault c.args.target c.args.word.now c.in-Err.fault c.in-Err.ensures
