-- Inside.
-- When a book refuses to reserve room.
use Rattle.std.specs.Prelude.{ℕ, ◌+◌, ◌<◌, ◌≤◌, length}
use Rattle.cm_book.specs.History.{History}
use Rattle.cm_book.specs.declared.book.BookFault.{BookFault}
use Rattle.cm_book.specs.declared.book.BookFault.TheVariants.{HistoryFull, Memory}

-- so many more entries, with those that are there and those that room is reserved for, are within the
-- limit
abbrev pub FitsLimit : History → ℕ → Type 0
FitsLimit h need = length h.entries + h.reserved + need ≤ h.limit

-- why room isn't reserved: it would be above the limit; or it wouldn't, and memory ran out
abbrev pub BookRefuses : History → ℕ → BookFault → Type 0
BookRefuses h need HistoryFull = h.limit < length h.entries + h.reserved + need
BookRefuses h need Memory = FitsLimit h need
