-- Promised.
-- Reading gives a value or the first fault.
use Rattle.std.specs.Prelude.{ℕ, List, Result}
use Rattle.cm_decl.specs.declared.section.Section.{Section}
use Rattle.cm_read.specs.declared.fault.ItemPlace.{ItemPlace}
use Rattle.cm_read.specs.declared.fault.ReadFault.{ReadFault}
use Rattle.cm_read.specs.declared.fault.ReadFault.TheVariants.{Bad}

-- what is read, or the first fault
abbrev pub ReadResult : Type 0 → Type 0
ReadResult A = Result A ReadFault

-- the fault with this number, told of that field of the item at that place
abbrev pub bad : ItemPlace → ℕ → List ℕ → ReadFault
bad at number field = Bad number at.section at.index field

-- the place of a section's first item, at which faults of the section itself are told too
abbrev pub start : Section → ItemPlace
start s = record { section = s; index = 0 }

-- ---- what a function promises
