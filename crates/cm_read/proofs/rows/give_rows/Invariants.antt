use Rattle.std.proofs.Common.{◌≡◌, map, take}
use Rattle.cm_read.specs.Items as spec
use Rattle.cm_read.proofs.rows.give_rows.Given as goal

abbrev pub invariant-loop-name : goal.invariant-loop-name
invariant-loop-name l = l.rows ≡ map (spec.give_row l.terms) (take l.name-index l.names)
