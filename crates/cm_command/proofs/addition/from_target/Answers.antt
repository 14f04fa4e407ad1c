use Rattle.cm_command.proofs.lemmas.counts.AdditionCounts.{fault_0}
use Rattle.cm_command.proofs.addition.from_target.Goals as goal

pub returns-in-Err-from_rights : goal.returns-in-Err-from_rights
returns-in-Err-from_rights c =
    fault_0 c.args.kind c.args.word.now c.in-Err.fault c.in-Err-from_rights.other c.fault_of_either.result c.fault_of_either.ensures c.in-Err.ensures c.in-Err-from_rights.ensures
