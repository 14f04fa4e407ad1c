use Rattle.std.proofs.Common.{None}
use Rattle.cm_valid.specs.Parts.{Below, FindsFault}
use Rattle.cm_valid.proofs.pass.section_fault.Given as goal

abbrev pub invariant-loop-row : goal.invariant-loop-row
invariant-loop-row l = FindsFault l.index (Below l.section l.row) None
