use Rattle.cm_command.proofs.lemmas.counts.AdditionCounts.{fault_4}
use Rattle.cm_command.proofs.addition.from_optional.Goals as goal

pub returns-in-Err-from_transitional : goal.returns-in-Err-from_transitional
returns-in-Err-from_transitional c =
    fault_4 c.args.kind c.args.word.now c.in-Err.fault c.in-Err-from_transitional.other c.fault_of_either.result c.fault_of_either.ensures c.in-Err.ensures c.in-Err-from_transitional.ensures
