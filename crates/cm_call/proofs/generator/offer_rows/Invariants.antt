use Rattle.std.proofs.Common.{◌≡◌, map, take}
use Rattle.cm_call.specs.Generated.{offer_row}
use Rattle.cm_call.proofs.generator.offer_rows.Given as goal

abbrev pub invariant-loop-kid : goal.invariant-loop-kid
invariant-loop-kid l = l.rows ≡ map (offer_row l.instance) (take l.kid-index l.kids)
