-- Promised.
-- What a manifest declares, or its first fault.
use Rattle.std.specs.Prelude.{ℕ, List, [], ◌∷◌, length, codes, nat_lt, Option, Some, None, filter_map}
use Rattle.std.specs.Prelude.{ok_or, Result, Ok, Err, if◌then◌else◌}
use Rattle.std.specs.Str.{is_utf8}
use Rattle.serde_json.specs.Data.{Data}
use Rattle.serde_json.specs.Find.{get, as_object}
use Rattle.serde_json.specs.Read as json
use Rattle.cm_text.specs.Json.{json_of}
use Rattle.cm_text.specs.declared.fault.TextFault.{TextFault}
use Rattle.cm_decl.specs.declared.section.Section.TheVariants as section
use Rattle.cm_decl.specs.declared.rows.Child.{Child}
use Rattle.cm_decl.specs.declared.decl.Decl.{Decl}
use Rattle.cm_read.specs.declared.fault.ReadFault.{ReadFault}
use Rattle.cm_read.specs.Numbers.{not_utf8, not_json, not_object, too_large, max_bytes}
use Rattle.cm_names.specs.Steps.{◌>>=◌}
use Rattle.cm_read.specs.Reading.{ReadResult, bad, start}
use Rattle.cm_read.specs.Fields.{if_there, object_at, known_at, name_at}
use Rattle.cm_read.specs.Sections.{section_at}
use Rattle.cm_read.specs.declared.rows.SectionRows.{SectionRows}
use Rattle.cm_read.specs.Items.{child_at, collection_at, capability_at, capability_in, storage_in, use_at}
use Rattle.cm_read.specs.Items.{usage_in, debug_use_in, storage_use_in, offer_at, offer_in, storage_offer_in}
use Rattle.cm_read.specs.Items.{expose_at}
use Rattle.cm_read.specs.Environments.{environment_item_at}

-- the sections that a manifest may have
abbrev pub section_names : List (List ℕ)
section_names =
    codes "program" ∷ codes "children" ∷ codes "collections" ∷ codes "capabilities" ∷ codes "use"
    ∷ codes "offer" ∷ codes "expose" ∷ codes "facets" ∷ codes "environments" ∷ []

-- a fault that is told of the whole manifest
abbrev pub whole : ℕ → ReadFault
whole number = bad (start section.Manifest) number []

-- the runner in `program`, whose other members aren't looked at
unfoldable pub program_at : Data → ReadResult (List ℕ)
program_at d = do
  members ← object_at (start section.Program) d
  name_at (start section.Program) (codes "runner") d

-- the runner, if there is a program
unfoldable pub runner_at : Data → ReadResult (Option (List ℕ))
runner_at d = if_there (get (codes "program") d) program_at

-- the manifest is an object with known sections alone
unfoldable pub sections_at : Data → ReadResult (Unit {0})
sections_at d = do
  members ← ok_or (as_object d) (whole not_object)
  known_at (start section.Manifest) section_names members

-- the declared children, which are read first since offers and exposes may refer to them
unfoldable pub children_at : Data → ReadResult (List Child)
children_at d = section_at child_at section.Children (get (codes "children") d)

-- the rows of all sections, which are read in this order, so the first fault is told; `facets` isn't
-- looked at
unfoldable pub section_rows_at : Data → ReadResult SectionRows
section_rows_at d = do
  children ← children_at d
  collections ← section_at collection_at section.Collections (get (codes "collections") d)
  capabilities ← section_at capability_at section.Capabilities (get (codes "capabilities") d)
  uses ← section_at use_at section.Uses (get (codes "use") d)
  offers ← section_at (offer_at children) section.Offers (get (codes "offer") d)
  exposes ← section_at (expose_at children) section.Exposes (get (codes "expose") d)
  environments ← section_at environment_item_at section.Environments (get (codes "environments") d)
  Ok (record {
    children = children;
    collections = collections;
    capabilities = capabilities;
    uses = uses;
    offers = offers;
    exposes = exposes;
    environments = environments;
  })

-- the declaration of this runner and these rows
abbrev pub declared_by : Option (List ℕ) → SectionRows → Decl
declared_by runner rows = record {
  runner = runner;
  children = rows.children;
  collections = rows.collections;
  capabilities = filter_map capability_in rows.capabilities;
  uses = filter_map usage_in rows.uses;
  offers = filter_map offer_in rows.offers;
  exposes = rows.exposes;
  environments = rows.environments;
  debug_uses = filter_map debug_use_in rows.uses;
  storages = filter_map storage_in rows.capabilities;
  storage_uses = filter_map storage_use_in rows.uses;
  storage_offers = filter_map storage_offer_in rows.offers;
}

-- the declaration that a JSON value is read as
unfoldable pub decl_at : Data → ReadResult Decl
decl_at d = do
  known ← sections_at d
  runner ← runner_at d
  rows ← section_rows_at d
  Ok (declared_by runner rows)

-- the declaration that a JSON text is read as, by its value, if it has one
abbrev pub of_data : Option Data → ReadResult Decl
of_data None = Err (whole not_json)
of_data (Some d) = decl_at d

-- the declaration that a JSON text is read as
abbrev pub decl_of_json : List ℕ → ReadResult Decl
decl_of_json text = of_data (json.read text)

-- the strict JSON of a text in the relaxed spelling, which allows comments and the like, or that it
-- has none
abbrev pub json_text : Result (List ℕ) TextFault → ReadResult (List ℕ)
json_text (Ok json) = Ok json
json_text (Err e) = Err (whole not_json)

-- the declaration that a text in the relaxed spelling is read as
abbrev pub decl_of_text : List ℕ → ReadResult Decl
decl_of_text text = do
  json ← json_text (json_of text)
  decl_of_json json

-- the text that the bytes of a manifest are, if they are within the limit and UTF-8
abbrev pub text_of : List ℕ → ReadResult (List ℕ)
text_of bytes =
    if nat_lt max_bytes (length bytes) then Err (whole too_large)
    else if is_utf8 bytes then Ok bytes
    else Err (whole not_utf8)

-- the declaration that the bytes of a manifest are read as, or their first fault
abbrev pub decl_of_bytes : List ℕ → ReadResult Decl
decl_of_bytes bytes = do
  text ← text_of bytes
  decl_of_text text
