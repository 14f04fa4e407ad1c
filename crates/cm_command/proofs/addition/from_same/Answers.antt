use Rattle.cm_command.proofs.lemmas.counts.AdditionCounts.{same_fault}
use Rattle.cm_command.proofs.addition.from_same.Goals as goal

pub returns-in-Err-read_literal : goal.returns-in-Err-read_literal
returns-in-Err-read_literal c =
    same_fault c.args.word.now c.in-Err.fault c.in-Err-read_literal.other c.fault_of_either.result c.fault_of_either.ensures c.in-Err.ensures c.in-Err-read_literal.ensures
