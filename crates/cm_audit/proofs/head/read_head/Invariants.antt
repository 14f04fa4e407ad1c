use Rattle.std.proofs.Common.{length}
use Rattle.cm_audit.specs.Journal.{head}
use Rattle.cm_audit.specs.Reading.{IsAt}
use Rattle.cm_audit.proofs.head.read_head.Given as goal

-- the builtins of the lines that were read are in the list
abbrev pub invariant-lines : goal.invariant-lines
invariant-lines l = IsAt l.text l.at l.left (head l.builtins)

abbrev pub decreases-lines : goal.decreases-lines
decreases-lines l = length l.left
