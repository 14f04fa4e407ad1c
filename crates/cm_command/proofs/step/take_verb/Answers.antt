use Rattle.cm_command.proofs.lemmas.line.Step.{verb_fault}
use Rattle.cm_command.proofs.step.take_verb.Goals as goal

pub returns-in-Err : goal.returns-in-Err
returns-in-Err c = verb_fault c.args.word.now c.in-Err.fault c.in-Err.ensures
