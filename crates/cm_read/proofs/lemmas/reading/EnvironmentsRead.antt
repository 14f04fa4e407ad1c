-- What the items of `environments` give.
use Rattle.std.proofs.Common.{ℕ, List, [], codes, Option, Ok, Err}
use Rattle.std.specs.Prelude.{All, map, ok_or}
use Rattle.std.proofs.lemmas.List.Elements.{All-nil, All-append}
use Rattle.serde_json.specs.Data.{Data, Items, no_items, item}
use Rattle.serde_json.specs.Find.{get, as_array}
use Rattle.cm_names.specs.Name.{IsName}
use Rattle.cm_facts.proofs.Lists.{All_one, All_map}
use Rattle.cm_decl.specs.declared.kind.Kind.TheVariants as kind
use Rattle.cm_decl.specs.declared.origin.Origin.{Origin}
use Rattle.cm_read.specs.declared.fault.ItemPlace.{ItemPlace}
use Rattle.cm_read.specs.declared.rows.Registry.{Registry}
use Rattle.cm_read.specs.declared.rows.Registry.TheVariants.{Runners, Debug}
use Rattle.cm_read.specs.Numbers.{wrong_type}
use Rattle.cm_read.specs.Reading.{ReadResult, bad}
use Rattle.cm_read.specs.Fields.{object_at, known_at}
use Rattle.cm_read.specs.Words.{extends_at}
use Rattle.cm_read.specs.Environments.{registry_word, registration_fields, runner_names_at, registration_names_at}
use Rattle.cm_read.specs.Environments.{registered_at, environment_row_at}
use Rattle.cm_read.specs.Environments.{registration, registration_at, registrations_in_at, in_field, inside}
use Rattle.cm_read.specs.Environments.{registry_in_at, registry_at, environment_fields, environment_item_at}
use Rattle.cm_read.specs.Readable.{IsStaticSource, ForSomeOf, IsRegistration, IsEnvironment}
use Rattle.cm_read.proofs.lemmas.reading.Read.{Reads, fails, gives, any, next, defaulted}
use Rattle.cm_read.proofs.lemmas.reading.FieldsRead.{name_reads, static_from_reads}
use Rattle.cm_read.proofs.lemmas.reading.RowsRead.{item_names_reads, as_reads, target_is_name}

-- ---- what is read

-- The names of runners in an item are read as names.
runner_names_reads : (at : ItemPlace) (d : Data) → Reads (All IsName) (runner_names_at at d)
unfolding runner_names_at
runner_names_reads at d = next (name_reads at (codes "runner") d) (λ name n. gives (All_one IsName name n))

-- The names in a registration of either registry are read as names.
registration_names_reads : (which : Registry) (at : ItemPlace) (d : Data) → Reads (All IsName) (registration_names_at which at d)
registration_names_reads Runners at d = runner_names_reads at d
registration_names_reads Debug at d = item_names_reads kind.Protocol at d

-- A source, perhaps another name, and names make registrations that are right.
registrations_are : (from : Origin) (target : Option (List ℕ)) (names : List (List ℕ)) → IsStaticSource from
    → ForSomeOf target IsName → All IsName names → All IsRegistration (map (registration from target) names)
registrations_are from target names f t ns =
    All_map IsName IsRegistration (registration from target) names
    (λ name n. record { name = n; from = f; target = target_is_name target name t n }) ns

-- An item of a registry is read as registrations that are right.
registration_reads : (which : Registry) (at : ItemPlace) (d : Data) → Reads (All IsRegistration) (registration_at which at d)
unfolding registration_at registered_at
registration_reads which at d =
    next (any (object_at at d)) (λ members _.
    next (any (known_at at (registration_fields which) members)) (λ known _.
    next (registration_names_reads which at d) (λ names ns.
    next (static_from_reads at d) (λ from f.
    next (as_reads at names d) (λ target t.
    gives (registrations_are from target names f t ns))))))

-- The items of a registry are read as registrations that are right.
registrations_read : (which : Registry) (at : ItemPlace) (items : Items) → Reads (All IsRegistration) (registrations_in_at which at items)
registrations_read which at no_items = gives (All-nil IsRegistration)
registrations_read which at (item d ds) =
    next (registration_reads which at d) (λ first f.
    next (registrations_read which at ds) (λ others o. gives (All-append IsRegistration first others f o)))

-- what is read isn't changed by how its faults are told
inside_reads : {A : Type 0} {P : A → Type 0} (field : List ℕ) (r : ReadResult A) → Reads P r → Reads P (inside field r)
inside_reads field (Ok x) h = gives h.value
inside_reads field (Err e) h = fails (in_field field e)

-- The data of a registry are read as registrations that are right.
registry_in_reads : (which : Registry) (at : ItemPlace) (d : Data) → Reads (All IsRegistration) (registry_in_at which at d)
unfolding registry_in_at
registry_in_reads which at d =
    next (any (ok_or (as_array d) (bad at wrong_type (registry_word which)))) (λ items _.
    inside_reads (registry_word which) (registrations_in_at which at items) (registrations_read which at items))

-- A registry of an environment, if it is there, is read as registrations that are right.
registry_reads : (which : Registry) (at : ItemPlace) (d : Data) → Reads (All IsRegistration) (registry_at which at d)
unfolding registry_at
registry_reads which at d =
    defaulted (get (registry_word which) d) [] (registry_in_at which at) (All-nil IsRegistration) (registry_in_reads which at)

-- Each environment that an item of `environments` gives is one that such an item can be read as.
pub environment_item_reads : (at : ItemPlace) (d : Data) → Reads (All IsEnvironment) (environment_item_at at d)
unfolding environment_item_at environment_row_at
environment_item_reads at d =
    next (any (object_at at d)) (λ members _.
    next (any (known_at at environment_fields members)) (λ known _.
    next (name_reads at (codes "name") d) (λ name n.
    next (any (extends_at at d)) (λ extends _.
    next (registry_reads Runners at d) (λ runners r.
    next (registry_reads Debug at d) (λ debug g.
    gives (All_one IsEnvironment (record { name = name; extends = extends; runners = runners; debug = debug })
    (record { name = n; runners = r; debug = g }))))))))
