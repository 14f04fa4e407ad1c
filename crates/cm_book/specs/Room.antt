-- Promised.
-- How a book keeps its history.
use Rattle.std.specs.Prelude.{ℕ, ◌+◌, ◌≤◌, length}
use Rattle.std.specs.Vec.{vec_capacity}
use Rattle.cm_book.specs.History.{History}
use Rattle.cm_book.specs.declared.book.Book.TheInside.{Inside}

-- the history that a book's fields keep
abbrev pub history_of : Inside → History
history_of a = record { entries = a.entries.items; reserved = a.reserved; limit = a.limit }

-- what always holds of a book: memory for what is reserved is there, and all is within the limit
pub record BookHasRoom (a : Inside) : Type 0 where
  pub room : length a.entries.items + a.reserved ≤ vec_capacity a.entries
  pub within : length a.entries.items + a.reserved ≤ a.limit
