use Rattle.cm_command.proofs.lemmas.line.Step.{collection_fault}
use Rattle.cm_command.proofs.step.take_collection.Goals as goal

pub returns-in-Err : goal.returns-in-Err
returns-in-Err c = collection_fault c.args.parent c.args.word.now c.in-Err.fault c.in-Err.ensures
