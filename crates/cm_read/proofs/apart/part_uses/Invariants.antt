use Rattle.std.proofs.Common.{◌≡◌, ◌++◌}
use Rattle.std.specs.Prelude.{filter_map}
use Rattle.cm_read.specs.Items.{usage_in, debug_use_in, storage_use_in}
use Rattle.cm_read.proofs.apart.part_uses.Given as goal

abbrev pub invariant-loop-row : goal.invariant-loop-row
invariant-loop-row l = (l.routed ++ filter_map usage_in l.row-iterator.rest.items ≡ l.fn.routed ++ filter_map usage_in l.fn.rows) × ((l.debug ++ filter_map debug_use_in l.row-iterator.rest.items ≡ l.fn.debug ++ filter_map debug_use_in l.fn.rows) × (l.storages ++ filter_map storage_use_in l.row-iterator.rest.items ≡ l.fn.storages ++ filter_map storage_use_in l.fn.rows))
