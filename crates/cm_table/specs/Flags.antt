-- Inside.
-- The marks that are kept beside a row: which of them it or one above it has, so that nobody has to
-- walk up.
use Rattle.std.specs.Prelude.{◌≡◌, ℕ, List, Bool, true, false}
use Rattle.std.specs.Option.{option_map_or}
use Rattle.cm_world.specs.declared.row.Row.{Row}
use Rattle.cm_world.specs.Rows.{some_above}
use Rattle.cm_table.specs.declared.marks.MarkKind.{MarkKind}
use Rattle.cm_table.specs.declared.marks.MarkKind.TheVariants.{Closing, Doomed}
use Rattle.cm_table.specs.declared.marks.MarksAbove.{MarksAbove}
use Rattle.cm_table.specs.declared.slot.Slot.{Slot}
use Rattle.cm_table.specs.Slots.{slot_of, rows_in}

-- whether a row itself has this mark
abbrev pub has_mark : MarkKind → Row → Bool
has_mark Closing = λ r. r.closing
has_mark Doomed = λ r. r.doomed

-- whether a mark is among those that are kept
abbrev pub flag_in : MarkKind → MarksAbove → Bool
flag_in Closing m = m.closing
flag_in Doomed m = m.doomed

-- the kept marks with this one set
abbrev pub with_flag : MarkKind → MarksAbove → MarksAbove
with_flag Closing m = record m { closing = true }
with_flag Doomed m = record m { doomed = true }

-- no mark is kept
abbrev pub no_flags : MarksAbove
no_flags = record { closing = false; doomed = false }

-- whether it is kept of this row that it or one above it has the mark
abbrev pub flag_of : MarkKind → List Slot → ℕ → Bool
flag_of kind slots i = option_map_or (λ s. flag_in kind s.marks) (slot_of slots i) false

-- what is kept of marks is right at every row
abbrev pub AreFlagged : List Slot → Type 0
AreFlagged slots =
    (kind : MarkKind) (i : ℕ) → flag_of kind slots i ≡ some_above (has_mark kind) (rows_in slots) i
