-- Inside.
-- How a realm keeps its history and its tree, and what always holds of the two.
use Rattle.std.specs.Prelude.{◌≡◌, ◌+◌, ◌≤◌, length, count_by}
use Rattle.cm_world.specs.World.{World, owed}
use Rattle.cm_laws.specs.Story.{Story, world_of, IsLegal}
use Rattle.cm_laws.specs.Tasks.{IsNumbered, IsTasked}
use Rattle.cm_cache.specs.Beside.{IsBeside}
use Rattle.cm_order.specs.Plans.{IsPlan}
use Rattle.cm_steps.specs.Tasks.{is_open_resolve}
use Rattle.cm_steps.specs.LastTold.{IsToldNow}
use Rattle.cm_steps.specs.declared.realm.Realm.TheInside.{Inside}

-- the history that a realm's fields keep
abbrev pub story_of : Inside → Story
story_of a = record { frame = a.frame; entries = a.records.book.entries }

-- the tree that a realm's fields keep; actions are numbered from 1
abbrev pub world_in : Inside → World
world_in a = record {
  frame = a.frame;
  rows = a.table.rows;
  next_inc = a.table.next_inc;
  next_action = length a.acts.items + 1;
  acts = a.acts.items;
  joins = a.joins.items;
  entries = length a.records.book.entries;
}

-- the history is legal, and leaves this tree
pub record LeavesTree (s : Story) (w : World) : Type 0 where
  pub legal : IsLegal s
  pub world : world_of s ≡ w

-- what always holds of a realm's fields: they are the tree that its history leaves; memory is kept for
-- each open resolve and for the entries that are owed; the answers that are kept, what is known of ways
-- down, and what was told last of instances, are right for this tree
pub record IsRealmInvariant (a : Inside) : Type 0 where
  pub stands : LeavesTree (story_of a) (world_in a)
  pub owes : a.records.book.reserved ≡ owed a.acts.items a.joins.items
  pub counted : a.resolves ≡ count_by is_open_resolve a.acts.items
  pub spare : count_by is_open_resolve a.acts.items ≤ a.table.spare
  pub rows : a.table.limit ≡ a.frame.limits.rows
  pub entries : a.records.book.limit ≡ a.frame.limits.entries
  pub builtins : a.table.builtins ≡ a.frame.builtins
  pub numbers : IsNumbered 1 a.acts.items
  pub tasks : IsTasked a.table.rows a.acts.items
  pub beside : IsBeside a.frame a.records.book.entries a.records.keeper
  pub planned : IsPlan a.table.rows a.records.plan
  pub told : IsToldNow a.table.rows a.records.last
