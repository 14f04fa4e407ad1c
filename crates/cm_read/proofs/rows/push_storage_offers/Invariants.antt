use Rattle.std.proofs.Common.{◌≡◌, ◌++◌, take}
use Rattle.cm_read.specs.Items as spec
use Rattle.cm_read.proofs.rows.push_storage_offers.Given as goal

abbrev pub invariant-loop-to : goal.invariant-loop-to
invariant-loop-to l = l.rows ≡ l.fn.rows ++ spec.storage_offer_rows l.from l.target (take l.to-index l.targets) l.name
