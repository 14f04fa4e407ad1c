use Rattle.std.proofs.Common.{◌≡◌, map, take}
use Rattle.serde_json.specs.View.{view}
use Rattle.cm_write.specs.Writing.{registration_data}
use Rattle.cm_write.proofs.environments.registrations_value.Given as goal

abbrev pub invariant-loop-row : goal.invariant-loop-row
invariant-loop-row l = map view l.values.items ≡ map (registration_data l.key) (take l.row-index l.rows)
