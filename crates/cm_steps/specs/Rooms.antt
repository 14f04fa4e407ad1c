-- Inside.
-- The refusals of the book, which keeps the history, as refusals of a step.
use Rattle.std.specs.Prelude.{◌≡◌, ℕ, ◌+◌, ◌<◌, length}
use Rattle.cm_book.specs.History.{History}
use Rattle.cm_book.specs.declared.book.BookFault.{BookFault}
use Rattle.cm_book.specs.declared.book.BookFault.TheVariants as room
use Rattle.cm_steps.specs.declared.nostep.NoStep.{NoStep}
use Rattle.cm_steps.specs.declared.nostep.NoStep.TheVariants as step

-- the book's refusal e is told as this refusal of a step
abbrev pub IsRoom : BookFault → NoStep → Type 0
IsRoom room.HistoryFull e = e ≡ step.HistoryFull
IsRoom room.Memory e = e ≡ step.Memory

-- why a step for so many entries is refused by the book: they are above the limit, or memory ran out
abbrev pub Lacks : History → ℕ → NoStep → Type 0
Lacks h need (step.Busy a) = ⊥
Lacks h need step.HistoryFull = h.limit < length h.entries + h.reserved + need
Lacks h need step.Memory = Unit {0}
