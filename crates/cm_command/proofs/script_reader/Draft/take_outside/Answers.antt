use Rattle.std.proofs.Common.{rules}
use Rattle.cm_command.specs.Scripts.{TakesScriptLine}
use Rattle.cm_command.proofs.script_reader.Draft.take_outside.Goals as goal

pub returns-then-is_blank : goal.returns-then-is_blank
returns-then-is_blank c = TakesScriptLine.blank c.requires.closed (search rules)
