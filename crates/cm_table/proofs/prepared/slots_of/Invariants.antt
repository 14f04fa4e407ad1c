use Rattle.std.proofs.Common.{◌≡◌, map, take}
use Rattle.cm_world.specs.End.{child_row}
use Rattle.cm_table.specs.Keys.{EachItem}
use Rattle.cm_table.specs.Slots.{rows_in}
use Rattle.cm_table.specs.Monikers.{HasOwnName}
use Rattle.cm_table.specs.Numbering.{IsBare}
use Rattle.cm_table.proofs.prepared.slots_of.Given as goal

abbrev pub invariant-loop-child : goal.invariant-loop-child
invariant-loop-child l =
    record {
      rows : rows_in l.slots.items ≡ map (child_row 0 0) (take l.child-index l.children);
      bare : EachItem IsBare l.slots.items;
      own : EachItem HasOwnName l.slots.items;
    }
