use Rattle.std.proofs.Common.{length}
use Rattle.cm_command.proofs.lemmas.counts.RightCounts.{IsOnward}
use Rattle.cm_command.proofs.rights.read_rights.Given as goal

-- what the rest says from here is what the whole says
abbrev pub invariant-pieces : goal.invariant-pieces
invariant-pieces l = IsOnward l.word l.used l.place l.rest

abbrev pub decreases-pieces : goal.decreases-pieces
decreases-pieces l = length l.rest
