-- Inside.
-- How a mark is brought down from a row to all below it.
use Rattle.std.specs.Prelude.{◌≡◌, ℕ, ◌<◌, ◌^◌, ◌||◌, ◌⊎◌, List, map, filter, length, not, true, false}
use Rattle.std.specs.Prelude.{Option, Some, None, IsSome, IsTrue}
use Rattle.cm_world.specs.declared.row.Row.{Row}
use Rattle.cm_world.specs.Rows.{row_of, is_live, is_below}
use Rattle.cm_world.specs.RowsInside.{is_behind}
use Rattle.cm_world.specs.Sound.{IsOrderly}
use Rattle.cm_table.specs.declared.marks.MarkKind.{MarkKind}
use Rattle.cm_table.specs.declared.marks.MarksAbove.{MarksAbove}
use Rattle.cm_table.specs.declared.slot.Slot.{Slot}
use Rattle.cm_table.specs.Flags.{flag_in, with_flag, no_flags, flag_of}
use Rattle.cm_table.specs.Keys.{EachItem}
use Rattle.cm_table.specs.Slots.{rows_in, slot_of, IsIndexed}

-- the rows are orderly and within the numbers, and the index of each slot is that of its row's
-- children
pub record AreIndexed (next : ℕ) (slots : List Slot) : Type 0 where
  pub fits : next < 2 ^ 64
  pub orderly : IsOrderly (rows_in slots) next
  pub indexed : EachItem (IsIndexed (rows_in slots) next) slots

-- the slot with this mark kept
abbrev pub flagged : MarkKind → Slot → Slot
flagged kind s = record s { marks = with_flag kind s.marks }

-- the slot without any kept mark, which is all that a mark changes
abbrev pub unmarked : Slot → Slot
unmarked s = record s { marks = no_flags }

-- the children of what has the mark kept have it kept too
abbrev pub IsDown : MarkKind → List Slot → Type 0
IsDown kind slots = (i p : ℕ) (r : Row) → row_of (rows_in slots) i ≡ Some r → r.parent ≡ Some p
    → flag_of kind slots p ≡ true → flag_of kind slots i ≡ true

-- a row at or below row top that doesn't have the mark kept yet
pub record IsOpenWithin (kind : MarkKind) (slots : List Slot) (top i : ℕ) : Type 0 where
  pub lives : IsTrue (is_live (rows_in slots) i)
  pub below : IsTrue (is_below (rows_in slots) top i)
  pub unmarked : flag_of kind slots i ≡ false

-- a child of row p that doesn't have the mark kept yet
pub record IsOpenChild (kind : MarkKind) (slots : List Slot) (p i : ℕ) : Type 0 where
  pub row : Row
  pub lives : row_of (rows_in slots) i ≡ Some row
  pub under : row.parent ≡ Some p
  pub unmarked : flag_of kind slots i ≡ false

-- all children of row p after the given one have the mark kept
abbrev pub AreAllFlagged : MarkKind → List Slot → ℕ → Option ℕ → Type 0
AreAllFlagged kind slots p after = (i : ℕ) (r : Row) → row_of (rows_in slots) i ≡ Some r → r.parent ≡ Some p
    → IsTrue (is_behind after i) → flag_of kind slots i ≡ true

-- a row at or below row top that doesn't have the mark kept, all of whose children do: it is next
pub record IsBottom (kind : MarkKind) (slots : List Slot) (top i : ℕ) : Type 0 where
  pub within : IsOpenWithin kind slots top i
  pub children : AreAllFlagged kind slots i None

-- how many slots don't have the mark kept; it falls with each step
abbrev pub open_count : MarkKind → List Slot → ℕ
open_count kind slots = length (filter (λ s. not (flag_in kind s.marks)) slots)

-- the other kinds of marks are kept as before
abbrev pub OthersAreKept : MarkKind → List Slot → List Slot → Type 0
OthersAreKept kind slots after = (other : MarkKind) (i : ℕ)
    → ((m : MarksAbove) → flag_in other (with_flag kind m) ≡ flag_in other m)
    → flag_of other after i ≡ flag_of other slots i

-- where the bringing down goes on: at a row without the mark, or nowhere, once the top has it
abbrev pub GoesOn : MarkKind → List Slot → ℕ → Option ℕ → Type 0
GoesOn kind slots top None = flag_of kind slots top ≡ true
GoesOn kind slots top (Some i) = IsOpenWithin kind slots top i

-- where the bringing down of a mark goes on, where the top may not live: at a row without the mark, or
-- nowhere
abbrev pub GoesAnyway : MarkKind → List Slot → ℕ → Option ℕ → Type 0
GoesAnyway kind slots top None = (flag_of kind slots top ≡ true) ⊎ (slot_of slots top ≡ None)
GoesAnyway kind slots top (Some i) = IsOpenWithin kind slots top i

-- where it begins: at the row itself, where it lives and doesn't have the mark kept
abbrev pub BeginsAt : MarkKind → List Slot → ℕ → Option ℕ → Type 0
BeginsAt kind slots top None = (flag_of kind slots top ≡ true) ⊎ (slot_of slots top ≡ None)
BeginsAt kind slots top (Some i) = (i ≡ top) × IsSome (slot_of slots top) × (flag_of kind slots top ≡ false)

-- one slot more at or below another is flagged
pub record Turns (kind : MarkKind) (top : ℕ) (slots after : List Slot) (at : Option ℕ) : Type 0 where
  pub same : map unmarked after ≡ map unmarked slots
  pub others : OthersAreKept kind slots after
  pub down : IsDown kind after
  pub kept : (i : ℕ) → flag_of kind slots i ≡ true → flag_of kind after i ≡ true
  pub only : (i : ℕ) → flag_of kind after i ≡ true
      → (flag_of kind slots i || is_below (rows_in slots) top i) ≡ true
  pub goes : GoesOn kind after top at
  pub fewer : open_count kind after < open_count kind slots

-- what the bringing down has come to from the slots at first: it goes on there, or all is done
pub record Going (kind : MarkKind) (top : ℕ) (slots after : List Slot) (at : Option ℕ) : Type 0 where
  pub same : map unmarked after ≡ map unmarked slots
  pub others : OthersAreKept kind slots after
  pub down : IsDown kind after
  pub kept : (i : ℕ) → flag_of kind slots i ≡ true → flag_of kind after i ≡ true
  pub only : (i : ℕ) → flag_of kind after i ≡ true
      → (flag_of kind slots i || is_below (rows_in slots) top i) ≡ true
  pub goes : GoesAnyway kind after top at

-- all at and below a row have the mark kept, if it lives
pub record Marks (kind : MarkKind) (top : ℕ) (slots after : List Slot) : Type 0 where
  pub same : map unmarked after ≡ map unmarked slots
  pub others : OthersAreKept kind slots after
  pub flags : (i : ℕ) → flag_of kind after i ≡ (flag_of kind slots i || is_below (rows_in slots) top i)
