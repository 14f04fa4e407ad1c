use Rattle.std.proofs.Common.{◌≡◌, take}
use Rattle.std.specs.List.{flat_map}
use Rattle.cm_read.specs.Items as spec
use Rattle.cm_read.proofs.rows.storage_offer_rows.Given as goal

abbrev pub invariant-loop-name : goal.invariant-loop-name
invariant-loop-name l = l.rows ≡ flat_map (spec.storage_offer_rows l.from l.target l.targets) (take l.name-index l.names)
