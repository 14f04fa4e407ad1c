-- Promised.
-- How the rows of a section are read.
use Rattle.std.specs.Prelude.{◌+◌, ◌-◌, ◌^◌, min, List, [], ◌++◌, length, Option, Some, None, ok_or, Ok, Err}
use Rattle.std.specs.Prelude.{nat_le, if◌then◌else◌}
use Rattle.serde_json.specs.Data.{Data, Items, no_items, item}
use Rattle.serde_json.specs.Find.{as_array}
use Rattle.cm_decl.specs.declared.section.Section.{Section}
use Rattle.cm_read.specs.declared.fault.ItemPlace.{ItemPlace}
use Rattle.cm_read.specs.Numbers.{wrong_type, too_many_rows, max_rows}
use Rattle.cm_names.specs.Steps.{◌>>=◌}
use Rattle.cm_read.specs.Reading.{ReadResult, bad, start}

-- the place of the next item; the index stays within 32 bits
abbrev pub next : ItemPlace → ItemPlace
next at = record at { index = min (at.index + 1) (2 ^ 32 - 1) }

-- what the items of a section are read as, one after another, each by `read` at its place
abbrev pub rows_at : {A : Type 0} → (ItemPlace → Data → ReadResult (List A)) → ItemPlace → Items
    → ReadResult (List A)
rows_at read at no_items = Ok []
rows_at read at (item d ds) = do
  first ← read at d
  others ← rows_at read (next at) ds
  Ok (first ++ others)

-- what a section is read as, by how its items are read: no rows where it is missing, and a fault where
-- there are too many
abbrev pub section_at : {A : Type 0} → (ItemPlace → Data → ReadResult (List A)) → Section → Option Data
    → ReadResult (List A)
section_at read s None = Ok []
section_at read s (Some d) = do
  items ← ok_or (as_array d) (bad (start s) wrong_type [])
  rows ← rows_at read (start s) items
  if nat_le (length rows) max_rows then Ok rows else Err (bad (start s) too_many_rows [])
