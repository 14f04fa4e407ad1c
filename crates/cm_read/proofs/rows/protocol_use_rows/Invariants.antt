use Rattle.std.proofs.Common.{◌≡◌, map, take}
use Rattle.cm_read.specs.Items as spec
use Rattle.cm_read.proofs.rows.protocol_use_rows.Given as goal

abbrev pub invariant-loop-name : goal.invariant-loop-name
invariant-loop-name l = l.rows ≡ map (spec.protocol_use_row l.from l.path l.dependency l.availability) (take l.name-index l.names)
