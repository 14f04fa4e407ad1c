use Rattle.std.proofs.Common.{length}
use Rattle.cm_command.proofs.lemmas.line.LineWords.{IsUnderWay}
use Rattle.cm_command.proofs.reader.read_line.Given as goal

-- what the rest says from here is what the line says
abbrev pub invariant-words : goal.invariant-words
invariant-words l = IsUnderWay l.fn.start l.line l.place l.rest l.prefix

abbrev pub decreases-words : goal.decreases-words
decreases-words l = length l.rest
