use Rattle.std.proofs.Common.{◌≡◌, ◌++◌}
use Rattle.std.specs.Prelude.{filter_map}
use Rattle.cm_read.specs.Items.{offer_in, storage_offer_in}
use Rattle.cm_read.proofs.apart.part_offers.Given as goal

abbrev pub invariant-loop-row : goal.invariant-loop-row
invariant-loop-row l = (l.routed ++ filter_map offer_in l.row-iterator.rest.items ≡ l.fn.routed ++ filter_map offer_in l.fn.rows) × (l.storages ++ filter_map storage_offer_in l.row-iterator.rest.items ≡ l.fn.storages ++ filter_map storage_offer_in l.fn.rows)
