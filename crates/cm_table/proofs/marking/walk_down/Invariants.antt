use Rattle.std.proofs.Common.{◌-◌}
use Rattle.cm_table.specs.Marking.{IsOpenWithin}
use Rattle.cm_table.specs.Slots.{flat}
use Rattle.cm_table.proofs.marking.walk_down.Given as goal

abbrev pub invariant-down : goal.invariant-down
invariant-down l = IsOpenWithin l.kind (flat l.blocks) l.top l.here

abbrev pub decreases-down : goal.decreases-down
decreases-down l = l.next - l.here
