-- Inside.
-- Rows in slots, slots in blocks. A slot has a row, the index of its children, and what is kept of
-- marks.
use Rattle.std.specs.Prelude.{◌≡◌, ℕ, ◌≤◌, ◌+◌, ◌==◌, List, [], Option, Some, None, find, filter, map}
use Rattle.std.specs.Prelude.{option_map}
use Rattle.std.specs.List.{flat_map}
use Rattle.cm_names.specs.declared.child.ChildName.{ChildName}
use Rattle.cm_world.specs.declared.row.Row.{Row}
use Rattle.cm_world.specs.Rows.{has_parent, child_of}
use Rattle.cm_world.specs.Sound.{IsOrderly}
use Rattle.cm_table.specs.declared.slot.Slot.{Slot}
use Rattle.cm_table.specs.declared.slot.ChildIndex.{ChildIndex}
use Rattle.cm_table.specs.declared.block.RowBlock.{RowBlock}
use Rattle.cm_table.specs.ByName.{led_to}
use Rattle.cm_table.specs.Keys.{EachItem}

-- ---- slots

-- the incarnation of a slot's row
abbrev pub inc_of : Slot → ℕ
inc_of s = s.row.inc

-- the slots of one block
abbrev pub slots_in : RowBlock → List Slot
slots_in b = b.slots.items

-- the slots of all blocks, block after block
abbrev pub flat : List RowBlock → List Slot
flat blocks = flat_map slots_in blocks

-- the rows of these slots
abbrev pub rows_in : List Slot → List Row
rows_in slots = map (λ s. s.row) slots

-- the slot of this incarnation, if it lives
abbrev pub slot_of : List Slot → ℕ → Option Slot
slot_of slots i = find (λ s. s.row.inc == i) slots

-- the slot with another index of its row's children
abbrev pub indexed_by : Option ChildIndex → Slot → Slot
indexed_by x s = record s { index = x }

-- the slot with its row changed
abbrev pub with_row_by : (Row → Row) → Slot → Slot
with_row_by f s = record s { row = f s.row }

-- ---- indexes

-- the incarnations of the children that an index lists; it keeps their distances from a base
abbrev pub kids_at : ChildIndex → List ℕ
kids_at x = map (λ k. x.base + k) x.kids.items

-- the incarnation of the child that an index has by this name
abbrev pub named_at : ChildIndex → ChildName → Option ℕ
named_at x c = option_map (λ k. x.base + k) (led_to x.names c)

-- the incarnations of the children, by an index that may be missing where there are none
abbrev pub kids_of : Option ChildIndex → List ℕ
kids_of None = []
kids_of (Some x) = kids_at x

-- the incarnation of the child of this name, by an index that may be missing
abbrev pub named_in : Option ChildIndex → ChildName → Option ℕ
named_in None c = None
named_in (Some x) c = named_at x c

-- the number from which an index counts; 0 where there is none
abbrev pub base_of : Option ChildIndex → ℕ
base_of None = 0
base_of (Some x) = x.base

-- the index of a slot is exactly that of its row's children
pub record IsIndexed (rows : List Row) (next : ℕ) (s : Slot) : Type 0 where
  pub base : base_of s.index ≤ next
  pub kids : kids_of s.index ≡ map (λ r. r.inc) (filter (has_parent s.row.inc) rows)
  pub names : (c : ChildName) → named_in s.index c ≡ child_of rows s.row.inc c

-- the rows are orderly, and each slot's index is that of its row's children
pub record AreOrderly (slots : List Slot) : Type 0 where
  pub next : ℕ
  pub orderly : IsOrderly (rows_in slots) next
  pub indexed : EachItem (IsIndexed (rows_in slots) next) slots
