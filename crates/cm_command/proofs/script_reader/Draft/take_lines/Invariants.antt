use Rattle.std.proofs.Common.{length}
use Rattle.cm_command.specs.ScriptsInside.{Continuation}
use Rattle.cm_command.proofs.script_reader.Draft.take_lines.Given as goal

-- what the rest gives from here is what all bytes give
abbrev pub invariant-lines : goal.invariant-lines
invariant-lines l = Continuation l.bytes l.number l.self l.rest

abbrev pub decreases-lines : goal.decreases-lines
decreases-lines l = length l.rest
