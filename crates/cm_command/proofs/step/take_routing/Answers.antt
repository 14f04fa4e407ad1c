use Rattle.cm_command.proofs.lemmas.line.Step.{routing_fault}
use Rattle.cm_command.proofs.step.take_routing.Goals as goal

pub returns-in-Err : goal.returns-in-Err
returns-in-Err c = routing_fault c.args.target c.args.word.now c.in-Err.fault c.in-Err.ensures
