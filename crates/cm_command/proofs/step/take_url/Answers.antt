use Rattle.cm_command.proofs.lemmas.line.Step.{url_fault}
use Rattle.cm_command.proofs.step.take_url.Goals as goal

pub returns-in-Err : goal.returns-in-Err
returns-in-Err c = url_fault c.args.parent c.args.coll c.args.name c.args.word.now c.in-Err.fault c.in-Err.ensures
