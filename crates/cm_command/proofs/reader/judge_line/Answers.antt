use Rattle.std.proofs.Common.{◌∙◌}
use Rattle.cm_command.proofs.lemmas.line.LineWords.{commands, read, short, no_builtin, command_faulty}
use Rattle.cm_command.proofs.reader.judge_line.Goals as goal

pub unreachable-requires : goal.unreachable-requires
unreachable-requires c = no_builtin c.args.line.now c.in-Ok.sentence _ c.in-Builtin.is c.in-Ok.ensures

pub fault_of-requires : goal.fault_of-requires
fault_of-requires c = short commands c.args.line.now c.in-Err.fault c.requires c.in-Err.ensures

pub returns-in-Command-clause-ok : goal.returns-in-Command-clause-ok
returns-in-Command-clause-ok c = read commands c.args.line.now c.in-Ok.sentence c.in-Command.command c.in-Command.is c.in-Ok.ensures

pub returns-in-Err-clause-fault : goal.returns-in-Err-clause-fault
returns-in-Err-clause-fault c =
    λ told. rw c.fault_of.ensures (command_faulty c.args.line.now c.in-Err.fault c.in-Err.ensures (λ e. told (c.fault_of.ensures ∙ e)))
