use Rattle.cm_command.proofs.lemmas.counts.NumberCounts.{IsSoFar}
use Rattle.cm_command.proofs.tokens.read_number.Given as goal

-- the number that the digits so far stand for
abbrev pub invariant-loop-i : goal.invariant-loop-i
invariant-loop-i l = IsSoFar l.word l.i l.number
