use Rattle.std.proofs.Common.{◌≡◌, map, take}
use Rattle.cm_call.specs.Generated.{child_row}
use Rattle.cm_call.proofs.generator.child_rows.Given as goal

abbrev pub invariant-loop-kid : goal.invariant-loop-kid
invariant-loop-kid l = l.rows ≡ map child_row (take l.kid-index l.kids)
