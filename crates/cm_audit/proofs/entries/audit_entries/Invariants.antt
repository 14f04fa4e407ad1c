use Rattle.std.proofs.Common.{◌<◌, length}
use Rattle.cm_audit.specs.Reading.{IsAt, stage_of}
use Rattle.cm_audit.proofs.entries.audit_entries.Given as goal

-- the realm has the entries of the lines that were read, each of which has a line of its own
abbrev pub invariant-lines : goal.invariant-lines
invariant-lines l = IsAt l.text l.at l.left (stage_of l.realm) × (length l.realm.entries < l.at)

abbrev pub decreases-lines : goal.decreases-lines
decreases-lines l = length l.left
