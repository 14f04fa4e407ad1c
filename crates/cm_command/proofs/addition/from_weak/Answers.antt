use Rattle.cm_command.proofs.lemmas.counts.AdditionCounts.{fault_3}
use Rattle.cm_command.proofs.addition.from_weak.Goals as goal

pub returns-in-Err-from_optional : goal.returns-in-Err-from_optional
returns-in-Err-from_optional c =
    fault_3 c.args.kind c.args.word.now c.in-Err.fault c.in-Err-from_optional.other c.fault_of_either.result c.fault_of_either.ensures c.in-Err.ensures c.in-Err-from_optional.ensures
