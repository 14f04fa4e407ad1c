use Rattle.std.proofs.Common.{length}
use Rattle.cm_audit.specs.Journal.{before}
use Rattle.cm_audit.specs.Reading.{IsAt}
use Rattle.cm_audit.proofs.head.find_journal.Given as goal

-- no line `journal` has come
abbrev pub invariant-lines : goal.invariant-lines
invariant-lines l = IsAt l.text l.number l.rest before

abbrev pub decreases-lines : goal.decreases-lines
decreases-lines l = length l.rest
