use Rattle.std.proofs.Common.{◌≡◌, length}
use Rattle.std.specs.Vec.{vec_capacity}
use Rattle.cm_table.specs.Keys.{Filled}
use Rattle.cm_table.specs.Marking.{open_count, Going}
use Rattle.cm_table.specs.Slots.{flat, slots_in}
use Rattle.cm_table.proofs.marking.mark_below.Given as goal

abbrev pub invariant-mark : goal.invariant-mark
invariant-mark l =
    record {
      going : Going l.kind l.top (flat l.fn.blocks.items) (flat l.blocks.items) l.at;
      full : Filled slots_in l.blocks.items;
      len : length l.blocks.items ≡ length l.fn.blocks.items;
      capacity : vec_capacity l.blocks ≡ vec_capacity l.fn.blocks;
    }

abbrev pub decreases-mark : goal.decreases-mark
decreases-mark l = open_count l.kind (flat l.blocks.items)
