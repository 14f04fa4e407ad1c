use Rattle.std.proofs.Common.{◌∙◌}
use Rattle.cm_command.proofs.lemmas.line.LineWords.{builtins, read, short, no_command, builtin_faulty}
use Rattle.cm_command.proofs.reader.read_builtin.Goals as goal

pub unreachable-requires : goal.unreachable-requires
unreachable-requires c = no_command c.args.words.now c.in-Ok.sentence _ c.in-Command.is c.in-Ok.ensures

pub fault_of-requires : goal.fault_of-requires
fault_of-requires c = short builtins c.args.words.now c.in-Err.fault c.requires c.in-Err.ensures

pub returns-in-Builtin-clause-ok : goal.returns-in-Builtin-clause-ok
returns-in-Builtin-clause-ok c = read builtins c.args.words.now c.in-Ok.sentence c.in-Builtin.builtin c.in-Builtin.is c.in-Ok.ensures

pub returns-in-Err-clause-fault : goal.returns-in-Err-clause-fault
returns-in-Err-clause-fault c =
    λ told. rw c.fault_of.ensures (builtin_faulty c.args.words.now c.in-Err.fault c.in-Err.ensures (λ e. told (c.fault_of.ensures ∙ e)))
