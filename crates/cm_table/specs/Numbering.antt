-- Inside.
-- How the rows of a prepared declaration get their incarnations and their parent.
use Rattle.std.specs.Prelude.{◌≡◌, ℕ, ◌+◌, List, [], ◌∷◌, Option, Some, None}
use Rattle.cm_names.specs.declared.moniker.Moniker.{Moniker}
use Rattle.cm_world.specs.declared.row.Row.{Row}
use Rattle.cm_table.specs.declared.marks.MarksAbove.{MarksAbove}
use Rattle.cm_table.specs.declared.slot.Slot.{Slot}

-- the row with this parent and this incarnation
abbrev pub placed : ℕ → ℕ → Row → Row
placed parent inc r = record r { inc = inc; parent = Some parent }

-- the slot with this parent and this incarnation for its row, and these kept marks
abbrev pub placed_slot : ℕ → ℕ → MarksAbove → Slot → Slot
placed_slot parent inc marks s = record s { row = placed parent inc s.row; marks = marks }

-- the slots with one parent and these kept marks, and with increasing incarnations from the first on
abbrev pub numbered : ℕ → ℕ → MarksAbove → List Slot → List Slot
numbered parent inc marks [] = []
numbered parent inc marks (s ∷ ss) = placed_slot parent inc marks s ∷ numbered parent (inc + 1) marks ss

-- the slot has exactly these kept marks
abbrev pub HasMarks : MarksAbove → Slot → Type 0
HasMarks marks s = s.marks ≡ marks

-- the slot has no index, since its row has no children yet
abbrev pub IsBare : Slot → Type 0
IsBare s = s.index ≡ None

-- a slot without an index, for this row
abbrev pub bare_slot : Row → MarksAbove → Option Moniker → Slot
bare_slot r marks moniker = record { row = r; index = None; marks = marks; moniker = moniker }
