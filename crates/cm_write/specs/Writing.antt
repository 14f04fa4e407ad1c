-- Promised.
-- The text that is written of a declaration: one JSON text for each. Members of an object are keys,
-- each with its value.
use Rattle.std.specs.Prelude.{ℕ, List, [], ◌∷◌, ◌++◌, map, codes, Bool, true, false, Option}
use Rattle.std.specs.Prelude.{Some, None}
use Rattle.serde_json.specs.Data.{Data, string, array, object, Members, no_members, put}
use Rattle.serde_json.specs.View.{items_of}
use Rattle.serde_json.specs.Written.{compact_text}
use Rattle.cm_names.specs.Child.{child_text}
use Rattle.cm_names.specs.Availability.{availability_word, dependency_word}
use Rattle.cm_names.specs.Rights.{RightSet, words_of}
use Rattle.cm_decl.specs.Words.{kind_word}
use Rattle.cm_decl.specs.declared.origin.Origin.{Origin}
use Rattle.cm_decl.specs.declared.origin.Origin.TheVariants as origin
use Rattle.cm_decl.specs.declared.rows.Child.{Child}
use Rattle.cm_decl.specs.declared.rows.Collection.{Collection}
use Rattle.cm_decl.specs.declared.rows.Capability.{Capability}
use Rattle.cm_decl.specs.declared.rows.Usage.{Usage}
use Rattle.cm_decl.specs.declared.rows.Give.{Give}
use Rattle.cm_decl.specs.declared.rows.Offer.{Offer}
use Rattle.cm_decl.specs.declared.environment.Registration.{Registration}
use Rattle.cm_decl.specs.declared.environment.Environment.{Environment}
use Rattle.cm_decl.specs.declared.environment.DebugUse.{DebugUse}
use Rattle.cm_decl.specs.declared.storage.Storage.{Storage}
use Rattle.cm_decl.specs.declared.storage.StorageUse.{StorageUse}
use Rattle.cm_decl.specs.declared.storage.StorageOffer.{StorageOffer}
use Rattle.cm_decl.specs.declared.decl.Decl.{Decl}
use Rattle.cm_decl.specs.declared.rows.Durability.{Durability}
use Rattle.cm_decl.specs.declared.rows.Durability.TheVariants.{Transient, SingleRun}

-- keys, each with the value that stands at it
abbrev pub Pairs : Type 0
Pairs = List (List ℕ × Data)

-- the members with these put among them; members stand in the byte order of their keys
abbrev pub with_pairs : Members → Pairs → Members
with_pairs ms [] = ms
with_pairs ms (p ∷ ps) = with_pairs (put p.0 p.1 ms) ps

-- the object with these members
abbrev pub object_of : Pairs → Data
object_of ps = object (with_pairs no_members ps)

-- the JSON list of these, each written so
abbrev pub list_of : {A : Type 0} → (A → Data) → List A → Data
list_of write xs = array (items_of (map write xs))

-- ---- words

-- the word of `startup`
abbrev pub startup_word : Bool → List ℕ
startup_word true = codes "eager"
startup_word false = codes "lazy"

-- the word of `allowed_offers`
abbrev pub offers_word : Bool → List ℕ
offers_word true = codes "static_and_dynamic"
offers_word false = codes "static_only"

-- the word of `durability`
abbrev pub durability_word : Durability → List ℕ
durability_word Transient = codes "transient"
durability_word SingleRun = codes "single_run"

-- a reference to a name: `#` and the name
abbrev pub reference : List ℕ → List ℕ
reference name = 35 ∷ name

-- a source, as `from` has it
abbrev pub origin_text : Origin → List ℕ
origin_text origin.Parent = codes "parent"
origin_text origin.Own = codes "self"
origin_text origin.Framework = codes "framework"
origin_text (origin.Child child) = reference (child_text child)
origin_text origin.Void = codes "void"

-- ---- fields

-- the member `rights`, where there are any, as the words for single rights
abbrev pub rights_pair : Option RightSet → Pairs
rights_pair None = []
rights_pair (Some rights) = (codes "rights", list_of string (words_of rights)) ∷ []

-- the member `subdir`, where there is one
abbrev pub subdir_pair : Option (List ℕ) → Pairs
subdir_pair None = []
subdir_pair (Some subdir) = (codes "subdir", string subdir) ∷ []

-- the member `environment`, where there is one
abbrev pub environment_pair : Option (List ℕ) → Pairs
environment_pair None = []
environment_pair (Some name) = (codes "environment", string (reference name)) ∷ []

-- ---- rows: an item for each row, in which nothing is left to a default

-- the members of a row of `children`
abbrev pub child_pairs : Child → Pairs
child_pairs c =
    (codes "name", string c.name)
    ∷ (codes "url", string c.url)
    ∷ (codes "startup", string (startup_word c.eager))
    ∷ environment_pair c.environment

-- the members of a row of `collections`
abbrev pub collection_pairs : Collection → Pairs
collection_pairs c =
    (codes "name", string c.name)
    ∷ (codes "durability", string (durability_word c.durability))
    ∷ (codes "allowed_offers", string (offers_word c.dynamic_offers))
    ∷ environment_pair c.environment

-- the members of a row of `capabilities`
abbrev pub capability_pairs : Capability → Pairs
capability_pairs c =
    (kind_word c.kind, string c.name) ∷ (codes "path", string c.path) ∷ rights_pair c.rights

-- the members of a row of `use`
abbrev pub use_pairs : Usage → Pairs
use_pairs u =
    (kind_word u.kind, string u.name)
    ∷ (codes "from", string (origin_text u.from))
    ∷ (codes "path", string u.path)
    ∷ (codes "dependency", string (dependency_word u.dependency))
    ∷ (codes "availability", string (availability_word u.availability))
    ∷ (rights_pair u.rights ++ subdir_pair u.subdir)

-- the members of a row of `expose`, without `to`; a row of `offer` has them too
abbrev pub give_pairs : Give → Pairs
give_pairs g =
    (kind_word g.kind, string g.source_name)
    ∷ (codes "from", string (origin_text g.from))
    ∷ (codes "as", string g.target_name)
    ∷ (codes "availability", string (availability_word g.availability))
    ∷ (rights_pair g.rights ++ subdir_pair g.subdir)

-- the members of a row of `offer`
abbrev pub offer_pairs : Offer → Pairs
offer_pairs o =
    (codes "to", string (reference o.to))
    ∷ (codes "dependency", string (dependency_word o.give.dependency))
    ∷ give_pairs o.give

-- the word of `storage_id`
abbrev pub storage_id_word : Bool → List ℕ
storage_id_word true = codes "static_instance_id_or_moniker"
storage_id_word false = codes "static_instance_id"

-- the members of a storage in `capabilities`
abbrev pub storage_pairs : Storage → Pairs
storage_pairs s =
    (codes "storage", string s.name)
    ∷ (codes "from", string (origin_text s.from))
    ∷ (codes "backing_dir", string s.backing)
    ∷ (codes "storage_id", string (storage_id_word s.by_moniker))
    ∷ subdir_pair s.subdir

-- the members of a debug use in `use`
abbrev pub debug_use_pairs : DebugUse → Pairs
debug_use_pairs u =
    (codes "protocol", string u.name)
    ∷ (codes "from", string (codes "debug"))
    ∷ (codes "path", string u.path)
    ∷ []

-- the members of a use of a storage in `use`
abbrev pub storage_use_pairs : StorageUse → Pairs
storage_use_pairs u =
    (codes "storage", string u.name)
    ∷ (codes "from", string (codes "parent"))
    ∷ (codes "path", string u.path)
    ∷ []

-- the members of an offer of a storage in `offer`
abbrev pub storage_offer_pairs : StorageOffer → Pairs
storage_offer_pairs o =
    (codes "storage", string o.source_name)
    ∷ (codes "from", string (origin_text o.from))
    ∷ (codes "to", string (reference o.to))
    ∷ (codes "as", string o.target_name)
    ∷ []

-- the members of a registration, whose name stands at this key
abbrev pub registration_pairs : List ℕ → Registration → Pairs
registration_pairs key r =
    (key, string r.name) ∷ (codes "from", string (origin_text r.from)) ∷ (codes "as", string r.target) ∷ []

-- a registration as a JSON object; its name stands at this key
abbrev pub registration_data : List ℕ → Registration → Data
registration_data key r = object_of (registration_pairs key r)

-- the word of `extends`
abbrev pub extends_word : Bool → List ℕ
extends_word true = codes "realm"
extends_word false = codes "none"

-- the members of an item of `environments`; all four are written
abbrev pub environment_pairs : Environment → Pairs
environment_pairs e =
    (codes "name", string e.name)
    ∷ (codes "extends", string (extends_word e.extends))
    ∷ (codes "runners", list_of (registration_data (codes "runner")) e.runners)
    ∷ (codes "debug", list_of (registration_data (codes "protocol")) e.debug)
    ∷ []

-- a storage as an item of `capabilities`
abbrev pub storage_data : Storage → Data
storage_data s = object_of (storage_pairs s)

-- a use of a debug protocol as an item of `use`
abbrev pub debug_use_data : DebugUse → Data
debug_use_data u = object_of (debug_use_pairs u)

-- a use of a storage as an item of `use`
abbrev pub storage_use_data : StorageUse → Data
storage_use_data u = object_of (storage_use_pairs u)

-- an offer of a storage as an item of `offer`
abbrev pub storage_offer_data : StorageOffer → Data
storage_offer_data o = object_of (storage_offer_pairs o)

-- an environment as an item of `environments`
abbrev pub environment_data : Environment → Data
environment_data e = object_of (environment_pairs e)

-- a child as an item of `children`
abbrev pub child_data : Child → Data
child_data c = object_of (child_pairs c)

-- a collection as an item of `collections`
abbrev pub collection_data : Collection → Data
collection_data c = object_of (collection_pairs c)

-- a protocol or a directory as an item of `capabilities`
abbrev pub capability_data : Capability → Data
capability_data c = object_of (capability_pairs c)

-- a use of a protocol or a directory as an item of `use`
abbrev pub use_data : Usage → Data
use_data u = object_of (use_pairs u)

-- an offer of a protocol or a directory as an item of `offer`
abbrev pub offer_data : Offer → Data
offer_data o = object_of (offer_pairs o)

-- an expose as an item of `expose`
abbrev pub expose_data : Give → Data
expose_data g = object_of (give_pairs g)

-- ---- the declaration

-- the members of `program`
abbrev pub runner_pairs : List ℕ → Pairs
runner_pairs runner = (codes "runner", string runner) ∷ []

-- the member `program`, where there is a runner
abbrev pub program_pair : Option (List ℕ) → Pairs
program_pair None = []
program_pair (Some runner) = (codes "program", object_of (runner_pairs runner)) ∷ []

-- the items of `capabilities`: protocols and directories, then storages
abbrev pub capability_items : Decl → List Data
capability_items d = map capability_data d.capabilities ++ map storage_data d.storages

-- the items of `use`: protocols and directories, then debug protocols, then storages
abbrev pub use_items : Decl → List Data
use_items d = map use_data d.uses ++ (map debug_use_data d.debug_uses ++ map storage_use_data d.storage_uses)

-- the items of `offer`: protocols and directories, then storages
abbrev pub offer_items : Decl → List Data
offer_items d = map offer_data d.offers ++ map storage_offer_data d.storage_offers

-- the member `environments`, where there are some
abbrev pub environments_pair : List Environment → Pairs
environments_pair [] = []
environments_pair (e ∷ es) = (codes "environments", list_of environment_data (e ∷ es)) ∷ []

-- the members of a manifest: `environments` and `program` only where there is something to write, all
-- others always
abbrev pub decl_pairs : Decl → Pairs
decl_pairs d =
    (codes "children", list_of child_data d.children)
    ∷ (codes "collections", list_of collection_data d.collections)
    ∷ (codes "capabilities", array (items_of (capability_items d)))
    ∷ (codes "use", array (items_of (use_items d)))
    ∷ (codes "offer", array (items_of (offer_items d)))
    ∷ (codes "expose", list_of expose_data d.exposes)
    ∷ (environments_pair d.environments ++ program_pair d.runner)

-- the declaration as a JSON object
abbrev pub decl_data : Decl → Data
decl_data d = object_of (decl_pairs d)

-- the text of a declaration, as compact JSON
abbrev pub decl_text : Decl → List ℕ
decl_text d = compact_text (decl_data d)
