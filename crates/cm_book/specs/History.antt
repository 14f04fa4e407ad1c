-- Promised.
-- What contracts see of a book, which keeps the history of a realm.
use Rattle.std.specs.Prelude.{ℕ, List}
use Rattle.cm_world.specs.declared.reply.Entry.{Entry}

-- the entries, for how many more room is reserved, and the limit of both together
pub record History : Type 0 where
  pub entries : List Entry
  pub reserved : ℕ
  pub limit : ℕ
