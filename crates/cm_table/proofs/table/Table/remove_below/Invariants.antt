use Rattle.std.proofs.Common.{◌≡◌, length}
use Rattle.cm_world.specs.After.{others_than}
use Rattle.cm_table.specs.Leaf.{Continues}
use Rattle.cm_table.proofs.table.Table.remove_below.Given as goal

abbrev pub invariant-loop-at : goal.invariant-loop-at
invariant-loop-at l =
    record {
      others : others_than l.self.rows l.inc ≡ others_than l.fn.self.rows l.inc;
      same : l.self ≡ record l.fn.self { rows = l.self.rows };
      next : Continues l.self l.inc l.at;
    }

abbrev pub decreases-loop-at : goal.decreases-loop-at
decreases-loop-at l = length l.self.rows
