use Rattle.std.proofs.Common.{◌≡◌, ◌+◌, ◌++◌, take, drop}
use Rattle.cm_table.specs.Numbering.{numbered}
use Rattle.cm_table.proofs.prepared.number_all.Given as goal

abbrev pub invariant-loop-slot : goal.invariant-loop-slot
invariant-loop-slot l =
    record {
      next : l.next ≡ l.first + l.slot-index;
      items : l.slot-items ≡ numbered l.parent l.first l.marks (take l.slot-index l.fn.slots.items) ++ drop l.slot-index l.fn.slots.items;
    }
