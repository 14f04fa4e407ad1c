-- Inside.
-- How a table keeps its rows.
use Rattle.std.specs.Prelude.{◌≡◌, ◌≤◌, ◌<◌, ◌+◌, ◌^◌, length}
use Rattle.std.specs.Vec.{vec_capacity}
use Rattle.cm_world.specs.Sound.{IsOrderly}
use Rattle.cm_table.specs.Tree.{Tree}
use Rattle.cm_table.specs.Keys.{EachItem, Filled}
use Rattle.cm_table.specs.Flags.{AreFlagged}
use Rattle.cm_table.specs.Monikers.{StandWhereKept}
use Rattle.cm_table.specs.Slots.{slots_in, flat, rows_in, IsIndexed}
use Rattle.cm_table.specs.Wanted.{KnowsWanted}
use Rattle.cm_table.specs.declared.table.Table.TheInside.{Inside}

-- the tree that a table's fields keep
abbrev pub tree_of : Inside → Tree
tree_of a = record {
  rows = rows_in (flat a.blocks.items);
  next_inc = a.next_inc;
  builtins = a.builtins;
  limit = a.limit;
  spare = a.spare;
}

-- what always holds of a table's fields: memory for one block is kept for each resolve that needs it,
-- no block is empty, the rows are counted and orderly, each has the index of its children, its moniker
-- where one is kept, and the marks that it and those above it have, and the names that strong gives
-- name are known
pub record IsTableInvariant (a : Inside) : Type 0 where
  pub room : length a.blocks.items + a.spare ≤ vec_capacity a.blocks
  pub fits : a.next_inc < 2 ^ 64
  pub filled : Filled slots_in a.blocks.items
  pub count : a.count ≡ length (flat a.blocks.items)
  pub orderly : IsOrderly (rows_in (flat a.blocks.items)) a.next_inc
  pub indexed : EachItem (IsIndexed (rows_in (flat a.blocks.items)) a.next_inc) (flat a.blocks.items)
  pub flagged : AreFlagged (flat a.blocks.items)
  pub wanted : KnowsWanted (rows_in (flat a.blocks.items)) a.wanted
  pub standing : StandWhereKept (flat a.blocks.items)
