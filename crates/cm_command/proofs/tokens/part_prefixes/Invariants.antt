use Rattle.cm_command.proofs.lemmas.counts.PathCounts.{IsUnderWay}
use Rattle.cm_command.proofs.tokens.part_prefixes.Given as goal

-- the place is that behind the bytes so far
abbrev pub invariant-loop-i : goal.invariant-loop-i
invariant-loop-i l = IsUnderWay l.word l.limit l.i l.place
