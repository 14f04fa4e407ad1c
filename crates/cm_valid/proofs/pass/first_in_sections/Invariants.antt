use Rattle.std.proofs.Common.{None, ◌+◌}
use Rattle.cm_valid.specs.Parts.{Before, FindsFault}
use Rattle.cm_valid.proofs.pass.first_in_sections.Given as goal

abbrev pub invariant-loop-section : goal.invariant-loop-section
invariant-loop-section l = FindsFault l.index (Before (l.section-index + 2)) None
