use Rattle.cm_command.proofs.lemmas.line.Step.{target_fault}
use Rattle.cm_command.proofs.step.take_target.Goals as goal

pub returns-in-Err : goal.returns-in-Err
returns-in-Err c = target_fault c.args.verb c.args.word.now c.in-Err.fault c.in-Err.ensures
