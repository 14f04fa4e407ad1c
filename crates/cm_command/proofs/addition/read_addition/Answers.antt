use Rattle.std.proofs.Common.{arith}
use Rattle.cm_command.proofs.lemmas.counts.AdditionCounts.{fault_5}
use Rattle.cm_command.proofs.addition.read_addition.Goals as goal

pub returns-in-Err : goal.returns-in-Err
returns-in-Err c =
    fault_5 c.args.from c.args.kind c.args.word.now c.in-Err.fault (omega arith) c.in-Err.ensures
