use Rattle.cm_command.proofs.lemmas.line.Step.{listing_fault}
use Rattle.cm_command.proofs.step.take_listing.Goals as goal

pub returns-in-Err : goal.returns-in-Err
returns-in-Err c = listing_fault c.args.target c.args.word.now c.in-Err.fault c.in-Err.ensures
