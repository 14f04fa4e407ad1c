-- Promised.
-- The words that fields may have, and the fields that say where a capability comes from.
use Rattle.std.specs.Prelude.{ℕ, List, codes, Bool, true, false, not, ◌&&◌, Option, Some, None, Ok, Err}
use Rattle.std.specs.Prelude.{is_none, if◌then◌else◌, ok_or}
use Rattle.std.specs.Str.{bytes_eq}
use Rattle.std.specs.List.{list_any}
use Rattle.serde_json.specs.Data.{Data}
use Rattle.serde_json.specs.Find.{get}
use Rattle.cm_names.specs.declared.dependency.Dependency.{Dependency}
use Rattle.cm_names.specs.declared.dependency.Dependency.TheVariants.{Strong, Weak}
use Rattle.cm_names.specs.declared.availability.Availability.{Availability}
use Rattle.cm_names.specs.declared.availability.Availability.TheVariants.{Required, Optional}
use Rattle.cm_names.specs.declared.availability.Availability.TheVariants.{Transitional, SameAsTarget}
use Rattle.cm_decl.specs.declared.rows.Durability.{Durability}
use Rattle.cm_decl.specs.declared.rows.Durability.TheVariants.{Transient, SingleRun}
use Rattle.cm_names.specs.declared.child.ChildName.{ChildName}
use Rattle.cm_decl.specs.declared.rows.Child.{Child}
use Rattle.cm_decl.specs.declared.origin.Origin.{Origin}
use Rattle.cm_decl.specs.declared.origin.Origin.TheVariants as origin
use Rattle.cm_read.specs.declared.fault.ItemPlace.{ItemPlace}
use Rattle.cm_read.specs.declared.rows.UseSource.{UseSource}
use Rattle.cm_read.specs.declared.rows.UseSource.TheVariants as source
use Rattle.cm_read.specs.Numbers.{unknown_word, bad_name}
use Rattle.cm_names.specs.Steps.{◌>>=◌}
use Rattle.cm_read.specs.Reading.{ReadResult, bad}
use Rattle.cm_read.specs.Fields.{needed_at, or_default, if_there, text_at, name_from, listed_at, behind_mark}

-- ---- what the words mean

-- `startup`: whether the child starts together with its parent
unfoldable pub startup_named : List ℕ → Option Bool
startup_named t =
    if bytes_eq t (codes "lazy") then Some false
    else if bytes_eq t (codes "eager") then Some true
    else None

-- `durability`: how long an instance in a collection stays
unfoldable pub durability_named : List ℕ → Option Durability
durability_named t =
    if bytes_eq t (codes "transient") then Some Transient
    else if bytes_eq t (codes "single_run") then Some SingleRun
    else None

-- `allowed_offers`: whether a child of the collection may be created with offers of its own
unfoldable pub offers_named : List ℕ → Option Bool
offers_named t =
    if bytes_eq t (codes "static_only") then Some false
    else if bytes_eq t (codes "static_and_dynamic") then Some true
    else None

-- `dependency`: whether the one that depends has to stop first
unfoldable pub dependency_named : List ℕ → Option Dependency
dependency_named t =
    if bytes_eq t (codes "strong") then Some Strong
    else if bytes_eq t (codes "weak") then Some Weak
    else None

-- `availability` of a use: how much it needs the capability
unfoldable pub availability_named : List ℕ → Option Availability
availability_named t =
    if bytes_eq t (codes "required") then Some Required
    else if bytes_eq t (codes "optional") then Some Optional
    else if bytes_eq t (codes "transitional") then Some Transitional
    else None

-- `availability` of an offer or an expose: how surely it gives; it may also take over what its target
-- says
unfoldable pub given_availability_named : List ℕ → Option Availability
given_availability_named t =
    if bytes_eq t (codes "same_as_target") then Some SameAsTarget else availability_named t

-- `source_availability`: whether the child that is named as source may be missing
unfoldable pub source_named : List ℕ → Option Bool
source_named t =
    if bytes_eq t (codes "required") then Some false
    else if bytes_eq t (codes "unknown") then Some true
    else None

-- the words of `from` in a use; a child is named by a reference
unfoldable pub use_origin_named : List ℕ → Option Origin
use_origin_named t =
    if bytes_eq t (codes "parent") then Some origin.Parent
    else if bytes_eq t (codes "self") then Some origin.Own
    else if bytes_eq t (codes "framework") then Some origin.Framework
    else None

-- the words of `from` in an expose; a child is named by a reference
unfoldable pub expose_origin_named : List ℕ → Option Origin
expose_origin_named t =
    if bytes_eq t (codes "self") then Some origin.Own
    else if bytes_eq t (codes "framework") then Some origin.Framework
    else if bytes_eq t (codes "void") then Some origin.Void
    else None

-- the words of `from` in an offer; a child is named by a reference
unfoldable pub offer_origin_named : List ℕ → Option Origin
offer_origin_named t =
    if bytes_eq t (codes "parent") then Some origin.Parent else expose_origin_named t

-- the words of `from` in a registration or a storage; a child is named by a reference
unfoldable pub static_origin_named : List ℕ → Option Origin
static_origin_named t =
    if bytes_eq t (codes "parent") then Some origin.Parent
    else if bytes_eq t (codes "self") then Some origin.Own
    else None

-- the words of `from` in an offer of a storage
unfoldable pub storage_origin_named : List ℕ → Option Origin
storage_origin_named t =
    if bytes_eq t (codes "void") then Some origin.Void else static_origin_named t

-- `extends`: whether an environment goes on with what its component is given
unfoldable pub extends_named : List ℕ → Option Bool
extends_named t =
    if bytes_eq t (codes "none") then Some false
    else if bytes_eq t (codes "realm") then Some true
    else None

-- `storage_id`: whether an instance without an id gets a place by its moniker
unfoldable pub storage_id_named : List ℕ → Option Bool
storage_id_named t =
    if bytes_eq t (codes "static_instance_id") then Some false
    else if bytes_eq t (codes "static_instance_id_or_moniker") then Some true
    else None

-- the one word of `to` in an expose
unfoldable pub expose_target_named : List ℕ → Option (Unit {0})
expose_target_named t = if bytes_eq t (codes "parent") then Some tt else None

-- whether a child starts together with its parent: `startup`, by default `lazy`
unfoldable pub startup_at : ItemPlace → Data → ReadResult Bool
startup_at at d =
    or_default (get (codes "startup") d) false (listed_at startup_named at (codes "startup"))

-- how long instances of a collection stay: `durability`, which has to be there
unfoldable pub durability_at : ItemPlace → Data → ReadResult Durability
durability_at at d = do
  value ← needed_at at (codes "durability") d
  listed_at durability_named at (codes "durability") value

-- whether a child may be created with offers of its own: `allowed_offers`, by default `static_only`
unfoldable pub allowed_offers_at : ItemPlace → Data → ReadResult Bool
allowed_offers_at at d =
    or_default (get (codes "allowed_offers") d) false (listed_at offers_named at (codes "allowed_offers"))

-- whether the order of stops is bound: `dependency`, by default `strong`
unfoldable pub dependency_at : ItemPlace → Data → ReadResult Dependency
dependency_at at d =
    or_default (get (codes "dependency") d) Strong (listed_at dependency_named at (codes "dependency"))

-- how much a use needs the capability: `availability`, by default `required`
unfoldable pub availability_at : ItemPlace → Data → ReadResult Availability
availability_at at d =
    or_default (get (codes "availability") d) Required
    (listed_at availability_named at (codes "availability"))

-- how surely an offer or an expose gives: `availability`, by default `required`
unfoldable pub given_availability_at : ItemPlace → Data → ReadResult Availability
given_availability_at at d =
    or_default (get (codes "availability") d) Required
    (listed_at given_availability_named at (codes "availability"))

-- whether the source may be missing: `source_availability`, by default `required`
unfoldable pub source_unknown_at : ItemPlace → Data → ReadResult Bool
source_unknown_at at d =
    or_default (get (codes "source_availability") d) false
    (listed_at source_named at (codes "source_availability"))

-- where an expose goes: `to`, which can say `parent` alone, the default
unfoldable pub expose_to_at : ItemPlace → Data → ReadResult (Unit {0})
expose_to_at at d =
    or_default (get (codes "to") d) tt (listed_at expose_target_named at (codes "to"))

-- ---- where something comes from

-- the source that is a declared child of this name
abbrev pub child_origin : List ℕ → Origin
child_origin name = origin.Child (record { coll = None; name = name })

-- whether a child of this name, in no collection, is declared
abbrev pub is_declared : List Child → ChildName → Bool
is_declared children c = list_any (λ k. is_none c.coll && bytes_eq k.name c.name) children

-- the source of an offer or an expose, where a child that isn't declared but may be missing is
-- replaced by the void
abbrev pub settled : List Child → Bool → Origin → Origin
settled children unknown (origin.Child c) =
    if unknown && not (is_declared children c) then origin.Void else origin.Child c
settled children unknown from = from

-- the source that `from` names: the child of a reference, else what the word means
abbrev pub origin_from : ItemPlace → Option Origin → Option (List ℕ) → ReadResult Origin
origin_from at named (Some name) = do
  child ← name_from at (codes "from") name
  Ok (child_origin child)
origin_from at named None = ok_or named (bad at unknown_word (codes "from"))

-- the source that the value of `from` in a use names
unfoldable pub use_from_in_at : ItemPlace → Data → ReadResult Origin
use_from_in_at at d = do
  text ← text_at at (codes "from") d
  origin_from at (use_origin_named text) (behind_mark text)

-- the source that the value of `from` in an offer names
unfoldable pub offer_from_in_at : ItemPlace → Data → ReadResult Origin
offer_from_in_at at d = do
  text ← text_at at (codes "from") d
  origin_from at (offer_origin_named text) (behind_mark text)

-- the source that the value of `from` in an expose names
unfoldable pub expose_from_in_at : ItemPlace → Data → ReadResult Origin
expose_from_in_at at d = do
  text ← text_at at (codes "from") d
  origin_from at (expose_origin_named text) (behind_mark text)

-- where a use comes from: `from`, by default `parent`
unfoldable pub use_from_at : ItemPlace → Data → ReadResult Origin
use_from_at at d = or_default (get (codes "from") d) origin.Parent (use_from_in_at at)

-- where an offer comes from: `from`, which has to be there
unfoldable pub offer_from_at : ItemPlace → Data → ReadResult Origin
offer_from_at at d = do
  value ← needed_at at (codes "from") d
  offer_from_in_at at value

-- where an expose comes from: `from`, which has to be there
unfoldable pub expose_from_at : ItemPlace → Data → ReadResult Origin
expose_from_at at d = do
  value ← needed_at at (codes "from") d
  expose_from_in_at at value

-- where a protocol that is used comes from: a source, or the debug registrations of the environment
abbrev pub source_from : ItemPlace → List ℕ → ReadResult UseSource
source_from at text =
    if bytes_eq text (codes "debug") then Ok source.Debug
    else (origin_from at (use_origin_named text) (behind_mark text) >>= λ from. Ok (source.From from))

-- where a protocol that is used comes from, by the value of `from`
unfoldable pub use_source_in_at : ItemPlace → Data → ReadResult UseSource
use_source_in_at at d = do
  text ← text_at at (codes "from") d
  source_from at text

-- where a protocol that is used comes from: `from`, by default `parent`
unfoldable pub use_source_at : ItemPlace → Data → ReadResult UseSource
use_source_at at d = or_default (get (codes "from") d) (source.From origin.Parent) (use_source_in_at at)

-- the source that the value of `from` in a registration or a storage names
unfoldable pub static_from_in_at : ItemPlace → Data → ReadResult Origin
static_from_in_at at d = do
  text ← text_at at (codes "from") d
  origin_from at (static_origin_named text) (behind_mark text)

-- where a registration or a storage comes from: `from`, which has to be there
unfoldable pub static_from_at : ItemPlace → Data → ReadResult Origin
static_from_at at d = do
  value ← needed_at at (codes "from") d
  static_from_in_at at value

-- where an offer of a storage comes from: `from`, which has to be there; it may not be a child
unfoldable pub storage_from_at : ItemPlace → Data → ReadResult Origin
storage_from_at at d = do
  value ← needed_at at (codes "from") d
  listed_at storage_origin_named at (codes "from") value

-- where a use of a storage comes from: `from`, which can say `parent` alone, the default
unfoldable pub storage_use_from_at : ItemPlace → Data → ReadResult (Unit {0})
storage_use_from_at at d =
    or_default (get (codes "from") d) tt (listed_at expose_target_named at (codes "from"))

-- ---- environments and storage

-- whether an environment extends that of its component: `extends`, by default `none`
unfoldable pub extends_at : ItemPlace → Data → ReadResult Bool
extends_at at d = or_default (get (codes "extends") d) false (listed_at extends_named at (codes "extends"))

-- whether an instance without an id gets a place by its moniker: `storage_id`, which has to be there
unfoldable pub storage_id_at : ItemPlace → Data → ReadResult Bool
storage_id_at at d = do
  value ← needed_at at (codes "storage_id") d
  listed_at storage_id_named at (codes "storage_id") value

-- the name in a reference to an environment; what isn't a reference is told as no name
abbrev pub environment_from : ItemPlace → Option (List ℕ) → ReadResult (List ℕ)
environment_from at None = Err (bad at bad_name (codes "environment"))
environment_from at (Some name) = name_from at (codes "environment") name

-- the environment that the value of `environment` names
unfoldable pub environment_in_at : ItemPlace → Data → ReadResult (List ℕ)
environment_in_at at d = do
  text ← text_at at (codes "environment") d
  environment_from at (behind_mark text)

-- the environment that a child or a collection is given: `environment`, if it is there
unfoldable pub environment_at : ItemPlace → Data → ReadResult (Option (List ℕ))
environment_at at d = if_there (get (codes "environment") d) (environment_in_at at)
