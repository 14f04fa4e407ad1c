-- Inside.
-- Lists of texts that a reader only borrows, the members of an item, and the least of some keys.
use Rattle.std.specs.Prelude.{ℕ, List, map, length, Option, Some, None, Ok, Err, ◌==◌, if◌then◌else◌}
use Rattle.std.specs.Borrow.{Bor}
use Rattle.std.specs.Cmp.Lexicographic.{slice_cmp}
use Rattle.std.specs.List.{list_any}
use Rattle.std.specs.Ordering.{nat_cmp, match_ordering}
use Rattle.std.specs.Str.{bytes_eq}
use Rattle.serde_json.specs.Data.{Data, null, boolean, number, string, array, object, Items, Members}
use Rattle.serde_json.specs.Data.{no_members}
use Rattle.cm_names.specs.Steps.{◌>>=◌}
use Rattle.cm_read.specs.declared.fault.ItemPlace.{ItemPlace}
use Rattle.cm_read.specs.Numbers.{wrong_type}
use Rattle.cm_read.specs.Reading.{ReadResult, bad}
use Rattle.cm_read.specs.Fields.{texts_in_at, each, name_from, reference_from}

-- the texts themselves, of references to them
abbrev pub map_now : List (Bor (List ℕ)) → List (List ℕ)
map_now ts = map (λ t. t.now) ts

-- the members of an object; no others have some
abbrev pub members_in : Data → Members
members_in null = no_members
members_in (boolean b) = no_members
members_in (number n) = no_members
members_in (string s) = no_members
members_in (array ds) = no_members
members_in (object ms) = ms

-- the texts of a list of one or more
abbrev pub listed_texts_at : ItemPlace → List ℕ → Items → ReadResult (List (List ℕ))
listed_texts_at at key ds = do
  texts ← texts_in_at at key ds
  if length texts == 0 then Err (bad at wrong_type key) else Ok texts

-- the names of a list of one or more
abbrev pub listed_names_at : ItemPlace → List ℕ → Items → ReadResult (List (List ℕ))
listed_names_at at key ds = do
  texts ← listed_texts_at at key ds
  each (name_from at key) texts

-- the names of the references of a list of one or more
abbrev pub listed_references_at : ItemPlace → List ℕ → Items → ReadResult (List (List ℕ))
listed_references_at at key ds = do
  texts ← listed_texts_at at key ds
  each (reference_from at key) texts

-- the lesser one of two keys, in byte order
abbrev pub lesser : Option (List ℕ) → List ℕ → Option (List ℕ)
lesser None k = Some k
lesser (Some l) k = match_ordering (slice_cmp nat_cmp k l) (Some k) (Some l) (Some l)

-- the least key that isn't known, after one key more
abbrev pub least_with : List (Bor (List ℕ)) → Option (List ℕ) → List ℕ → Option (List ℕ)
least_with known least k = if list_any (λ w. bytes_eq w.now k) known then least else lesser least k
