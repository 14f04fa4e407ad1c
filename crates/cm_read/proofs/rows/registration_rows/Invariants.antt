use Rattle.std.proofs.Common.{◌≡◌, map, take}
use Rattle.cm_read.specs.Environments as spec
use Rattle.cm_read.proofs.rows.registration_rows.Given as goal

abbrev pub invariant-loop-name : goal.invariant-loop-name
invariant-loop-name l = l.rows ≡ map (spec.registration l.from l.target) (take l.name-index l.names)
