use Rattle.std.proofs.Common.{◌≡◌, take}
use Rattle.std.specs.List.{flat_map}
use Rattle.cm_read.specs.Items as spec
use Rattle.cm_read.proofs.rows.offer_rows.Given as goal

abbrev pub invariant-loop-give : goal.invariant-loop-give
invariant-loop-give l = l.rows ≡ flat_map (spec.offer_rows l.targets) (take l.give-index l.gives)
