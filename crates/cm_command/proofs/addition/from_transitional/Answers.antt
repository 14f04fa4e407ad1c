use Rattle.cm_command.proofs.lemmas.counts.AdditionCounts.{transitional_fault}
use Rattle.cm_command.proofs.addition.from_transitional.Goals as goal

pub returns-in-Err-from_same : goal.returns-in-Err-from_same
returns-in-Err-from_same c =
    transitional_fault c.args.word.now c.in-Err.fault c.in-Err-from_same.other c.fault_of_either.result c.fault_of_either.ensures c.in-Err.ensures c.in-Err-from_same.ensures
