-- Inside.
-- Where rows stand, as it is kept beside them.
use Rattle.std.specs.Prelude.{◌≡◌, ℕ, ◌++◌, List, Option, Some, None, option_and_then, option_to_list}
use Rattle.cm_names.specs.declared.child.ChildName.{ChildName}
use Rattle.cm_names.specs.declared.moniker.Moniker.{Moniker}
use Rattle.cm_world.specs.declared.row.Row.{Row}
use Rattle.cm_world.specs.Rows.{moniker_of}
use Rattle.cm_table.specs.declared.slot.Slot.{Slot}
use Rattle.cm_table.specs.Slots.{slot_of, rows_in}

-- where the row of an incarnation stands, if that is kept
abbrev pub kept_at : List Slot → ℕ → Option Moniker
kept_at slots i = option_and_then (λ s. s.moniker) (slot_of slots i)

-- each moniker that is kept is the one of its row
abbrev pub StandWhereKept : List Slot → Type 0
StandWhereKept slots = (i : ℕ) (m : Moniker) → kept_at slots i ≡ Some m → m ≡ moniker_of (rows_in slots) i

-- where it is kept where a row stands, it has the names from the root down to a row above, and its own
abbrev pub IsMonikerBelow : Option Moniker → Slot → Type 0
IsMonikerBelow above s = (m : Moniker) → s.moniker ≡ Some m
    → (w : Moniker) × (above ≡ Some w) × (m.parts ≡ w.parts ++ option_to_list s.row.name)

-- a moniker that is kept for a child of p of this name has the names from the root down to p, and this
-- one
abbrev pub IsChildMoniker : List Row → ℕ → ChildName → Option Moniker → Type 0
IsChildMoniker rows p name kept = (m : Moniker) → kept ≡ Some m
    → m.parts ≡ (moniker_of rows p).parts ++ option_to_list (Some name)

-- a moniker that is kept with the slot has the row's own name alone, as that of a child has before its
-- declaration is hung below an instance
abbrev pub HasOwnName : Slot → Type 0
HasOwnName s = (m : Moniker) → s.moniker ≡ Some m → m.parts ≡ option_to_list s.row.name

-- names with others before them
abbrev pub IsHung : Option Moniker → Option Moniker → Moniker → Type 0
IsHung above own m =
    (w : Moniker) × (o : Moniker) × (above ≡ Some w) × (own ≡ Some o) × (m.parts ≡ w.parts ++ o.parts)

-- a slot without what is kept of where it stands
abbrev pub unhung : Slot → Slot
unhung s = record s { moniker = None }
