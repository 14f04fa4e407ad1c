use Rattle.cm_command.proofs.lemmas.line.Step.{child_fault}
use Rattle.cm_command.proofs.step.take_child.Goals as goal

pub returns-in-Err : goal.returns-in-Err
returns-in-Err c = child_fault c.args.parent c.args.coll c.args.word.now c.in-Err.fault c.in-Err.ensures
