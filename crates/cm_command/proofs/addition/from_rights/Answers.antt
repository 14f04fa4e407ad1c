use Rattle.std.proofs.Common.{arith}
use Rattle.cm_command.proofs.lemmas.counts.AdditionCounts.{fault_1, protocol_reads}
use Rattle.cm_command.proofs.addition.from_rights.Goals as goal

pub returns-in-Protocol : goal.returns-in-Protocol
returns-in-Protocol c =
    protocol_reads 1 c.args.kind c.args.word.now c.from_weak.result c.in-Protocol.is (omega arith) (omega arith) c.from_weak.ensures

pub returns-in-Err-from_subdir : goal.returns-in-Err-from_subdir
returns-in-Err-from_subdir c =
    fault_1 c.args.kind c.args.word.now c.in-Err.fault c.in-Err-from_subdir.other c.fault_of_either.result c.in-Directory.is c.fault_of_either.ensures c.in-Err.ensures c.in-Err-from_subdir.ensures
