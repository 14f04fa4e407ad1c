use Rattle.std.proofs.Common.{◌-◌}
use Rattle.cm_table.specs.Leaf.{IsWithin}
use Rattle.cm_table.proofs.table.Table.walk_down.Given as goal

abbrev pub invariant-loop-child : goal.invariant-loop-child
invariant-loop-child l = IsWithin l.self.rows l.top l.leaf

abbrev pub decreases-loop-child : goal.decreases-loop-child
decreases-loop-child l = l.self.next_inc - l.leaf
