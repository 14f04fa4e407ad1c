-- Promised.
-- The items of `environments`, and the registrations in them.
use Rattle.std.specs.Prelude.{ℕ, List, [], ◌∷◌, ◌++◌, map, codes, Option, unwrap_or, ok_or, Ok, Err}
use Rattle.serde_json.specs.Data.{Data, Items, no_items, item}
use Rattle.serde_json.specs.Find.{get, as_array}
use Rattle.cm_decl.specs.declared.kind.Kind.TheVariants as kind
use Rattle.cm_decl.specs.declared.origin.Origin.{Origin}
use Rattle.cm_decl.specs.declared.environment.Registration.{Registration}
use Rattle.cm_decl.specs.declared.environment.Environment.{Environment}
use Rattle.cm_read.specs.declared.fault.ItemPlace.{ItemPlace}
use Rattle.cm_read.specs.declared.fault.ReadFault.{ReadFault}
use Rattle.cm_read.specs.declared.fault.ReadFault.TheVariants.{Bad, Memory}
use Rattle.cm_read.specs.declared.rows.Registry.{Registry}
use Rattle.cm_read.specs.declared.rows.Registry.TheVariants.{Runners, Debug}
use Rattle.cm_read.specs.Numbers.{wrong_type}
use Rattle.cm_names.specs.Steps.{◌>>=◌}
use Rattle.cm_read.specs.Reading.{ReadResult, bad}
use Rattle.cm_read.specs.Fields.{or_default, name_at, object_at, known_at}
use Rattle.cm_read.specs.Words.{extends_at, static_from_at}
use Rattle.cm_read.specs.Items.{item_names_at, as_at}

-- ---- registrations

-- the field of an environment that lists them
abbrev pub registry_word : Registry → List ℕ
registry_word Runners = codes "runners"
registry_word Debug = codes "debug"

-- the fields that an item of `runners` or of `debug` may have
abbrev pub registration_fields : Registry → List (List ℕ)
registration_fields Runners = codes "runner" ∷ codes "from" ∷ codes "as" ∷ []
registration_fields Debug = codes "protocol" ∷ codes "from" ∷ codes "as" ∷ []

-- the name of the runner that an item of `runners` registers; it has exactly one
unfoldable pub runner_names_at : ItemPlace → Data → ReadResult (List (List ℕ))
runner_names_at at d = do
  name ← name_at at (codes "runner") d
  Ok (name ∷ [])

-- the names that an item registers: one runner, or one or more debug protocols
abbrev pub registration_names_at : Registry → ItemPlace → Data → ReadResult (List (List ℕ))
registration_names_at Runners at d = runner_names_at at d
registration_names_at Debug at d = item_names_at kind.Protocol at d

-- the registration of one name; the name at its target is by default the same
abbrev pub registration : Origin → Option (List ℕ) → List ℕ → Registration
registration from target name = record { name = name; from = from; target = unwrap_or target name }

-- a registration for each of these names, by the other fields of the item
unfoldable pub registered_at : ItemPlace → List (List ℕ) → Data → ReadResult (List Registration)
registered_at at names d = do
  from ← static_from_at at d
  target ← as_at at names d
  Ok (map (registration from target) names)

-- what an item of `runners` or of `debug` is read as: a registration for each name
unfoldable pub registration_at : Registry → ItemPlace → Data → ReadResult (List Registration)
registration_at which at d = do
  members ← object_at at d
  known ← known_at at (registration_fields which) members
  names ← registration_names_at which at d
  registered_at at names d

-- what all items of `runners` or `debug` are read as, one after another; a fault is told at the place
-- of the environment
abbrev pub registrations_in_at : Registry → ItemPlace → Items → ReadResult (List Registration)
registrations_in_at which at no_items = Ok []
registrations_in_at which at (item d ds) = do
  first ← registration_at which at d
  others ← registrations_in_at which at ds
  Ok (first ++ others)

-- the fault of an item in a list, told of the field that has the list
abbrev pub in_field : List ℕ → ReadFault → ReadFault
in_field field (Bad number section index inner) = Bad number section index field
in_field field Memory = Memory

-- what is read of a field that lists items; a fault in one of them is told with that field's name
abbrev pub inside : {A : Type 0} → List ℕ → ReadResult A → ReadResult A
inside field (Ok x) = Ok x
inside field (Err fault) = Err (in_field field fault)

-- the registrations that the value of `runners` or `debug` lists
unfoldable pub registry_in_at : Registry → ItemPlace → Data → ReadResult (List Registration)
registry_in_at which at d = do
  items ← ok_or (as_array d) (bad at wrong_type (registry_word which))
  inside (registry_word which) (registrations_in_at which at items)

-- `runners` or `debug`, by default no registrations
unfoldable pub registry_at : Registry → ItemPlace → Data → ReadResult (List Registration)
registry_at which at d = or_default (get (registry_word which) d) [] (registry_in_at which at)

-- ---- environments

-- the fields that an environment may have; the last two are allowed and not looked at
abbrev pub environment_fields : List (List ℕ)
environment_fields =
    codes "name" ∷ codes "extends" ∷ codes "runners" ∷ codes "debug" ∷ codes "resolvers"
    ∷ codes "__stop_timeout_ms" ∷ []

-- the environment that an item is read as, once its fields are known ones
unfoldable pub environment_row_at : ItemPlace → Data → ReadResult (List Environment)
environment_row_at at d = do
  name ← name_at at (codes "name") d
  extends ← extends_at at d
  runners ← registry_at Runners at d
  debug ← registry_at Debug at d
  Ok (record { name = name; extends = extends; runners = runners; debug = debug } ∷ [])

-- what an item of `environments` is read as
unfoldable pub environment_item_at : ItemPlace → Data → ReadResult (List Environment)
environment_item_at at d = do
  members ← object_at at d
  known ← known_at at environment_fields members
  environment_row_at at d
