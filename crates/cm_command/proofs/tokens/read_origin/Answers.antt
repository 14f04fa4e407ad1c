use Rattle.cm_command.proofs.lemmas.counts.ChildCounts.{origin_fault}
use Rattle.cm_command.proofs.tokens.read_origin.Goals as goal

pub returns-in-Err-read_child_origin : goal.returns-in-Err-read_child_origin
returns-in-Err-read_child_origin c =
    origin_fault c.args.word.now c.in-Err.fault c.in-Err-read_child_origin.other c.fault_of_either.result c.fault_of_either.ensures c.in-Err.ensures c.in-Err-read_child_origin.ensures
