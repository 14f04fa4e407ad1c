use Rattle.std.proofs.Common.{rules, ◌≡◌}
use Rattle.cm_command.specs.declared.command.CommandFault.TheVariants.{BadCommand}
use Rattle.cm_session.proofs.lemmas.spoken.Sessions.{bad-fault, line-bad, line-command}
use Rattle.cm_session.proofs.lines.serve_line.Goals as goal

pub returns-in-Ok-clause-served : goal.returns-in-Ok-clause-served
returns-in-Ok-clause-served g c =
    line-command _ _ _ _ _ c.args.line.now c.in-Ok.command _ _ _ c.requires.short c.in-Ok.ensures.ok c.serve_command-ended.ensures.served

pub returns-in-Err-BadCommand-clause-served : goal.returns-in-Err-BadCommand-clause-served
returns-in-Err-BadCommand-clause-served g c =
    let is : c.in-Err-BadCommand.field-0 ≡ BadCommand c.in-Err-BadCommand.at = search rules in
    let fault = bad-fault c.args.line.now c.in-Err-BadCommand.field-0 c.in-Err-BadCommand.at is c.in-Err-BadCommand.ensures.fault in
    line-bad _ _ _ c.args.line.now c.in-Err-BadCommand.at _ _ _ c.requires.short fault c.refuse.ensures.answered
