-- Promised.
-- How the fields of an item are read. The value of a field is a `Data`, a JSON value; `at` is the
-- item's place, which faults tell, and `key` the field's name.
use Rattle.std.specs.Prelude.{ℕ, List, [], ◌∷◌, length, Option, Some, None, ok_or}
use Rattle.std.specs.Prelude.{Result, Ok, Err, ◌==◌, if◌then◌else◌}
use Rattle.std.specs.Str.{bytes_eq}
use Rattle.std.specs.List.{list_any}
use Rattle.serde_json.specs.Data.{Data, array, Items, no_items, item, Members, no_members, member}
use Rattle.serde_json.specs.Find.{get, as_str, as_array, as_object}
use Rattle.cm_names.specs.Name.{name_fault}
use Rattle.cm_names.specs.Path.{path_fault, subdir_fault}
use Rattle.cm_names.specs.Rights.{RightSet, rights_of}
use Rattle.cm_names.specs.Urls.{is_url_text}
use Rattle.cm_names.specs.declared.rights.RightsFault.{RightsFault}
use Rattle.cm_read.specs.declared.fault.ItemPlace.{ItemPlace}
use Rattle.cm_read.specs.declared.fault.ReadFault.{ReadFault}
use Rattle.cm_read.specs.Numbers.{unknown_field, missing, wrong_type, bad_name, bad_path, bad_rights}
use Rattle.cm_read.specs.Numbers.{unknown_word}
use Rattle.cm_names.specs.Steps.{◌>>=◌}
use Rattle.cm_read.specs.Reading.{ReadResult, bad}

-- ---- whether a field is there

-- the value of a field that has to be there
abbrev pub needed_at : ItemPlace → List ℕ → Data → ReadResult Data
needed_at at key d = ok_or (get key d) (bad at missing key)

-- what a field is read as, or its default where it isn't there
abbrev pub or_default : {A : Type 0} → Option Data → A → (Data → ReadResult A) → ReadResult A
or_default None default read = Ok default
or_default (Some d) default read = read d

-- what a field is read as, if it is there
abbrev pub if_there : {A : Type 0} → Option Data → (Data → ReadResult A) → ReadResult (Option A)
if_there None read = Ok None
if_there (Some d) read = read d >>= λ x. Ok (Some x)

-- ---- one text

-- the text of a field whose value has to be a text
abbrev pub text_at : ItemPlace → List ℕ → Data → ReadResult (List ℕ)
text_at at key d = ok_or (as_str d) (bad at wrong_type key)

-- the value x, or the fault e where a check found some fault
abbrev pub unless_fault : {A F : Type 0} → Option F → ReadFault → A → ReadResult A
unless_fault None e x = Ok x
unless_fault (Some f) e x = Err e

-- the text, where it is a name
abbrev pub name_from : ItemPlace → List ℕ → List ℕ → ReadResult (List ℕ)
name_from at key text = unless_fault (name_fault text) (bad at bad_name key) text

-- the text, where it is a path
abbrev pub path_from : ItemPlace → List ℕ → List ℕ → ReadResult (List ℕ)
path_from at key text = unless_fault (path_fault text) (bad at bad_path key) text

-- the text, where it is a subdirectory
abbrev pub subdir_from : ItemPlace → List ℕ → List ℕ → ReadResult (List ℕ)
subdir_from at key text = unless_fault (subdir_fault text) (bad at bad_path key) text

-- the text, where it may be a URL
abbrev pub url_from : ItemPlace → List ℕ → List ℕ → ReadResult (List ℕ)
url_from at key text = if is_url_text text then Ok text else Err (bad at bad_name key)

-- what a field's value means, which has to be one of the words that are listed for it
abbrev pub listed_at : {A : Type 0} → (List ℕ → Option A) → ItemPlace → List ℕ → Data → ReadResult A
listed_at meaning at key d = do
  text ← text_at at key d
  ok_or (meaning text) (bad at unknown_word key)

-- the name that a field's value has to be
unfoldable pub name_in_at : ItemPlace → List ℕ → Data → ReadResult (List ℕ)
name_in_at at key d = do
  text ← text_at at key d
  name_from at key text

-- the name in a field that has to be there
unfoldable pub name_at : ItemPlace → List ℕ → Data → ReadResult (List ℕ)
name_at at key d = do
  value ← needed_at at key d
  name_in_at at key value

-- the URL text in a field that has to be there
unfoldable pub url_at : ItemPlace → List ℕ → Data → ReadResult (List ℕ)
url_at at key d = do
  value ← needed_at at key d
  text ← text_at at key value
  url_from at key text

-- the path that a field's value has to be
unfoldable pub path_in_at : ItemPlace → List ℕ → Data → ReadResult (List ℕ)
path_in_at at key d = do
  text ← text_at at key d
  path_from at key text

-- the path in a field that has to be there
unfoldable pub path_at : ItemPlace → List ℕ → Data → ReadResult (List ℕ)
path_at at key d = do
  value ← needed_at at key d
  path_in_at at key value

-- the subdirectory that a field's value has to be
unfoldable pub subdir_in_at : ItemPlace → List ℕ → Data → ReadResult (List ℕ)
subdir_in_at at key d = do
  text ← text_at at key d
  subdir_from at key text

-- the subdirectory in a field that may be missing
unfoldable pub subdir_at : ItemPlace → List ℕ → Data → ReadResult (Option (List ℕ))
subdir_at at key d = if_there (get key d) (subdir_in_at at key)

-- ---- several texts

-- the texts of a list, each item of which has to be a text
abbrev pub texts_in_at : ItemPlace → List ℕ → Items → ReadResult (List (List ℕ))
texts_in_at at key no_items = Ok []
texts_in_at at key (item d ds) = do
  text ← text_at at key d
  others ← texts_in_at at key ds
  Ok (text ∷ others)

-- the texts of a field whose value is one text, or a list of one or more
unfoldable pub texts_at : ItemPlace → List ℕ → Data → ReadResult (List (List ℕ))
texts_at at key (array ds) = do
  texts ← texts_in_at at key ds
  if length texts == 0 then Err (bad at wrong_type key) else Ok texts
texts_at at key d = do
  text ← text_at at key d
  Ok (text ∷ [])

-- what each text is read as, or the first fault
abbrev pub each : {A : Type 0} → (List ℕ → ReadResult A) → List (List ℕ) → ReadResult (List A)
each read [] = Ok []
each read (text ∷ texts) = do
  first ← read text
  others ← each read texts
  Ok (first ∷ others)

-- the names of a field whose value is one name, or a list of one or more
unfoldable pub names_at : ItemPlace → List ℕ → Data → ReadResult (List (List ℕ))
names_at at key d = do
  texts ← texts_at at key d
  each (name_from at key) texts

-- what follows the `#` that a text begins with, if it does: the name in a reference such as `#logger`
abbrev pub behind_mark : List ℕ → Option (List ℕ)
behind_mark [] = None
behind_mark (c ∷ cs) = if c == 35 then Some cs else None

-- the name in a reference, which a `#` has to begin
abbrev pub reference_from : ItemPlace → List ℕ → List ℕ → ReadResult (List ℕ)
reference_from at key text = do
  name ← ok_or (behind_mark text) (bad at unknown_word key)
  name_from at key name

-- the names of a field whose value is one reference, or a list of one or more
unfoldable pub references_at : ItemPlace → List ℕ → Data → ReadResult (List (List ℕ))
references_at at key d = do
  texts ← texts_at at key d
  each (reference_from at key) texts

-- ---- rights

-- the rights that a list of words was read as, or the fault of the field
abbrev pub rights_from : ItemPlace → List ℕ → Result RightSet RightsFault → ReadResult RightSet
rights_from at key (Ok rights) = Ok rights
rights_from at key (Err e) = Err (bad at bad_rights key)

-- the rights of a field whose value has to be a list of words of rights
unfoldable pub rights_in_at : ItemPlace → List ℕ → Data → ReadResult RightSet
rights_in_at at key d = do
  items ← ok_or (as_array d) (bad at wrong_type key)
  words ← texts_in_at at key items
  rights_from at key (rights_of words)

-- the rights in a field that has to be there
unfoldable pub rights_at : ItemPlace → List ℕ → Data → ReadResult RightSet
rights_at at key d = do
  value ← needed_at at key d
  rights_in_at at key value

-- ---- known fields

-- the members of an item, which has to be an object
abbrev pub object_at : ItemPlace → Data → ReadResult Members
object_at at d = ok_or (as_object d) (bad at wrong_type [])

-- the first key of an object that isn't among the known ones; keys are looked at in byte order
abbrev pub unknown_in : List (List ℕ) → Members → Option (List ℕ)
unknown_in known no_members = None
unknown_in known (member k d ms) =
    if list_any (λ w. bytes_eq w k) known then unknown_in known ms else Some k

-- the fault of an unknown field, where there is one
abbrev pub no_unknown : ItemPlace → Option (List ℕ) → ReadResult (Unit {0})
no_unknown at None = Ok tt
no_unknown at (Some k) = Err (bad at unknown_field k)

-- the fault of the item's first unknown field, where it has one
abbrev pub known_at : ItemPlace → List (List ℕ) → Members → ReadResult (Unit {0})
known_at at known ms = no_unknown at (unknown_in known ms)
