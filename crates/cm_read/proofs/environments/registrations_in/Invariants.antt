use Rattle.std.proofs.Common.{◌≡◌, drop}
use Rattle.cm_plain.specs.JsonTree.{items_view}
use Rattle.cm_read.specs.Environments.{registrations_in_at}
use Rattle.cm_read.proofs.lemmas.Row.{with_prefix}
use Rattle.cm_read.proofs.environments.registrations_in.Given as goal

abbrev pub invariant-loop-item : goal.invariant-loop-item
invariant-loop-item l =
    with_prefix l.rows (registrations_in_at l.which l.at (items_view (drop l.item-index l.items)))
    ≡ registrations_in_at l.which l.at (items_view l.items)
