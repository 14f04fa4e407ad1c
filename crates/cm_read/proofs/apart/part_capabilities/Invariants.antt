use Rattle.std.proofs.Common.{◌≡◌, ◌++◌}
use Rattle.std.specs.Prelude.{filter_map}
use Rattle.cm_read.specs.Items.{capability_in, storage_in}
use Rattle.cm_read.proofs.apart.part_capabilities.Given as goal

abbrev pub invariant-loop-row : goal.invariant-loop-row
invariant-loop-row l = (l.routed ++ filter_map capability_in l.row-iterator.rest.items ≡ l.fn.routed ++ filter_map capability_in l.fn.rows) × (l.storages ++ filter_map storage_in l.row-iterator.rest.items ≡ l.fn.storages ++ filter_map storage_in l.fn.rows)
