-- Promised.
-- How the items of each section are read, and the rows of the declaration that they give. `..._at`
-- reads an item or a field of it at a place, which its faults tell.
use Rattle.std.specs.Prelude.{ℕ, List, [], ◌∷◌, length, map, codes, nat_lt, Option, Some, None, unwrap_or, Ok}
use Rattle.std.specs.Prelude.{Err, if◌then◌else◌}
use Rattle.std.specs.List.{flat_map}
use Rattle.serde_json.specs.Data.{Data}
use Rattle.serde_json.specs.Find.{get}
use Rattle.cm_names.specs.Path.{service_path}
use Rattle.cm_names.specs.Rights.{RightSet}
use Rattle.cm_names.specs.declared.dependency.Dependency.{Dependency}
use Rattle.cm_names.specs.declared.dependency.Dependency.TheVariants.{Strong}
use Rattle.cm_names.specs.declared.availability.Availability.{Availability}
use Rattle.cm_decl.specs.Words.{kind_word}
use Rattle.cm_decl.specs.declared.kind.Kind.{Kind}
use Rattle.cm_decl.specs.declared.kind.Kind.TheVariants as kind
use Rattle.cm_decl.specs.declared.origin.Origin.{Origin}
use Rattle.cm_decl.specs.declared.rows.Child.{Child}
use Rattle.cm_decl.specs.declared.rows.Collection.{Collection}
use Rattle.cm_decl.specs.declared.rows.Capability.{Capability}
use Rattle.cm_decl.specs.declared.rows.Usage.{Usage}
use Rattle.cm_decl.specs.declared.rows.Give.{Give}
use Rattle.cm_decl.specs.declared.rows.Offer.{Offer}
use Rattle.cm_decl.specs.declared.environment.DebugUse.{DebugUse}
use Rattle.cm_decl.specs.declared.storage.Storage.{Storage}
use Rattle.cm_decl.specs.declared.storage.StorageUse.{StorageUse}
use Rattle.cm_decl.specs.declared.storage.StorageOffer.{StorageOffer}
use Rattle.cm_read.specs.declared.rows.Sort.{Sort}
use Rattle.cm_read.specs.declared.rows.Sort.TheVariants as sort
use Rattle.cm_read.specs.declared.rows.CapabilityRow.{CapabilityRow}
use Rattle.cm_read.specs.declared.rows.CapabilityRow.TheVariants as capability_row
use Rattle.cm_read.specs.declared.rows.UseRow.{UseRow}
use Rattle.cm_read.specs.declared.rows.UseRow.TheVariants as use_row
use Rattle.cm_read.specs.declared.rows.OfferRow.{OfferRow}
use Rattle.cm_read.specs.declared.rows.OfferRow.TheVariants as offered
use Rattle.cm_read.specs.declared.rows.UseSource.{UseSource}
use Rattle.cm_read.specs.declared.rows.UseSource.TheVariants as source
use Rattle.cm_read.specs.declared.fault.ItemPlace.{ItemPlace}
use Rattle.cm_read.specs.declared.rows.Terms.{Terms}
use Rattle.cm_read.specs.Numbers.{kind_count, not_with_many}
use Rattle.cm_names.specs.Steps.{◌>>=◌}
use Rattle.cm_read.specs.Reading.{ReadResult, bad}
use Rattle.cm_read.specs.Fields.{needed_at, if_there, name_in_at, name_at, url_at, path_in_at, path_at}
use Rattle.cm_read.specs.Fields.{subdir_at, names_at, references_at, rights_in_at, rights_at, object_at}
use Rattle.cm_read.specs.Fields.{known_at}
use Rattle.cm_read.specs.Words.{startup_at, durability_at, allowed_offers_at, environment_at, dependency_at}
use Rattle.cm_read.specs.Words.{availability_at, given_availability_at, source_unknown_at, settled}
use Rattle.cm_read.specs.Words.{expose_to_at, use_from_at, use_source_at, offer_from_at, expose_from_at}
use Rattle.cm_read.specs.Words.{static_from_at, storage_from_at, storage_use_from_at, storage_id_at}

-- ---- children and collections

-- the fields that an item of `children` may have
abbrev pub child_fields : List (List ℕ)
child_fields = codes "name" ∷ codes "url" ∷ codes "startup" ∷ codes "environment" ∷ []

-- the child that an item is read as, once its fields are known ones
unfoldable pub child_row_at : ItemPlace → Data → ReadResult (List Child)
child_row_at at d = do
  name ← name_at at (codes "name") d
  url ← url_at at (codes "url") d
  eager ← startup_at at d
  environment ← environment_at at d
  Ok (record { name = name; url = url; eager = eager; environment = environment } ∷ [])

-- what an item of `children` is read as
unfoldable pub child_at : ItemPlace → Data → ReadResult (List Child)
child_at at d = do
  members ← object_at at d
  known ← known_at at child_fields members
  child_row_at at d

-- the fields that an item of `collections` may have
abbrev pub collection_fields : List (List ℕ)
collection_fields = codes "name" ∷ codes "durability" ∷ codes "allowed_offers" ∷ codes "environment" ∷ []

-- the collection that an item is read as, once its fields are known ones
unfoldable pub collection_row_at : ItemPlace → Data → ReadResult (List Collection)
collection_row_at at d = do
  name ← name_at at (codes "name") d
  durability ← durability_at at d
  dynamic_offers ← allowed_offers_at at d
  environment ← environment_at at d
  Ok (record {
    name = name;
    durability = durability;
    dynamic_offers = dynamic_offers;
    environment = environment;
  } ∷ [])

-- what an item of `collections` is read as
unfoldable pub collection_at : ItemPlace → Data → ReadResult (List Collection)
collection_at at d = do
  members ← object_at at d
  known ← known_at at collection_fields members
  collection_row_at at d

-- ---- kinds

-- the kind of a capability, by which of the fields `protocol` and `directory` is there; it has to be
-- exactly one
abbrev pub one_kind : ItemPlace → Option Data → Option Data → ReadResult Kind
one_kind at (Some d) None = Ok kind.Protocol
one_kind at None (Some d) = Ok kind.Directory
one_kind at None None = Err (bad at kind_count [])
one_kind at (Some d) (Some e) = Err (bad at kind_count [])

-- what an item is about, by which of the fields `protocol`, `directory` and `storage` is there; it has
-- to be exactly one
abbrev pub one_sort : ItemPlace → Option Data → Option Data → Option Data → ReadResult Sort
one_sort at (Some d) None None = Ok (sort.Routed kind.Protocol)
one_sort at None (Some d) None = Ok (sort.Routed kind.Directory)
one_sort at None None (Some d) = Ok sort.Storage
one_sort at _ _ _ = Err (bad at kind_count [])

-- what an item of `capabilities`, `use` or `offer` is about
unfoldable pub sort_at : ItemPlace → Data → ReadResult Sort
sort_at at d = one_sort at (get (codes "protocol") d) (get (codes "directory") d) (get (codes "storage") d)

-- the kind of an item of `expose`, which has exactly one of the fields `protocol` and `directory`
unfoldable pub kind_at : ItemPlace → Data → ReadResult Kind
kind_at at d = one_kind at (get (codes "protocol") d) (get (codes "directory") d)

-- the name of the directory that an item provides or uses; it has exactly one
unfoldable pub directory_name_at : ItemPlace → Data → ReadResult (List ℕ)
directory_name_at at d = name_at at (codes "directory") d

-- the names that an item lists of this kind, one or more
unfoldable pub item_names_at : Kind → ItemPlace → Data → ReadResult (List (List ℕ))
item_names_at k at d = do
  value ← needed_at at (kind_word k) d
  names_at at (kind_word k) value

-- the name of the storage that an item provides or uses; it has exactly one
unfoldable pub storage_name_at : ItemPlace → Data → ReadResult (List ℕ)
storage_name_at at d = name_at at (codes "storage") d

-- the name that the directory of a storage has at its source
unfoldable pub backing_at : ItemPlace → Data → ReadResult (List ℕ)
backing_at at d = name_at at (codes "backing_dir") d

-- the names of the storages that an item offers, one or more
unfoldable pub storage_names_at : ItemPlace → Data → ReadResult (List (List ℕ))
storage_names_at at d = do
  value ← needed_at at (codes "storage") d
  names_at at (codes "storage") value

-- the value of a field that may stand only where the item has a single name
abbrev pub alone : {A : Type 0} → ItemPlace → List ℕ → List (List ℕ) → A → ReadResult A
alone at key names x = if nat_lt 1 (length names) then Err (bad at not_with_many key) else Ok x

-- the value of `path` beside a protocol's name
unfoldable pub protocol_path_in_at : ItemPlace → List (List ℕ) → Data → ReadResult (List ℕ)
protocol_path_in_at at names d = do
  path ← path_in_at at (codes "path") d
  alone at (codes "path") names path

-- the path beside a protocol's name, if there is one
unfoldable pub protocol_path_at : ItemPlace → List (List ℕ) → Data → ReadResult (Option (List ℕ))
protocol_path_at at names d = if_there (get (codes "path") d) (protocol_path_in_at at names)

-- the path of a protocol: the given one, else /svc/ and its name
abbrev pub path_of : Option (List ℕ) → List ℕ → List ℕ
path_of given name = unwrap_or given (service_path name)

-- ---- capabilities

-- the fields that an item of `capabilities` may have, by what it is about
abbrev pub capability_fields : Sort → List (List ℕ)
capability_fields (sort.Routed kind.Protocol) = codes "protocol" ∷ codes "path" ∷ []
capability_fields (sort.Routed kind.Directory) = codes "directory" ∷ codes "path" ∷ codes "rights" ∷ []
capability_fields sort.Storage =
    codes "storage" ∷ codes "from" ∷ codes "backing_dir" ∷ codes "subdir" ∷ codes "storage_id" ∷ []

-- the row, if it is a protocol or a directory
abbrev pub capability_in : CapabilityRow → Option Capability
capability_in (capability_row.Capability c) = Some c
capability_in (capability_row.Storage s) = None

-- the row, if it is a storage
abbrev pub storage_in : CapabilityRow → Option Storage
storage_in (capability_row.Capability c) = None
storage_in (capability_row.Storage s) = Some s

-- the capability of a protocol with this name
abbrev pub protocol_row : Option (List ℕ) → List ℕ → Capability
protocol_row path name = record {
  kind = kind.Protocol;
  name = name;
  path = path_of path name;
  rights = None;
}

-- the row of `capabilities` that is the protocol of this name
abbrev pub protocol_capability_row : Option (List ℕ) → List ℕ → CapabilityRow
protocol_capability_row path name = capability_row.Capability (protocol_row path name)

-- what an item of `capabilities` with protocols is read as: a row for each name
unfoldable pub protocol_capability_at : ItemPlace → Data → ReadResult (List CapabilityRow)
protocol_capability_at at d = do
  names ← item_names_at kind.Protocol at d
  path ← protocol_path_at at names d
  Ok (map (protocol_capability_row path) names)

-- what an item of `capabilities` with a directory is read as: one row
unfoldable pub directory_capability_at : ItemPlace → Data → ReadResult (List CapabilityRow)
directory_capability_at at d = do
  name ← directory_name_at at d
  path ← path_at at (codes "path") d
  rights ← rights_at at (codes "rights") d
  Ok (capability_row.Capability (record {
    kind = kind.Directory;
    name = name;
    path = path;
    rights = Some rights;
  }) ∷ [])

-- what an item of `capabilities` with a storage is read as: one row
unfoldable pub storage_at : ItemPlace → Data → ReadResult (List CapabilityRow)
storage_at at d = do
  name ← storage_name_at at d
  from ← static_from_at at d
  backing ← backing_at at d
  subdir ← subdir_at at (codes "subdir") d
  by_moniker ← storage_id_at at d
  Ok (capability_row.Storage (record {
    name = name;
    from = from;
    backing = backing;
    subdir = subdir;
    by_moniker = by_moniker;
  }) ∷ [])

-- what an item of `capabilities` is read as, by what it is about
abbrev pub capability_of_sort : Sort → ItemPlace → Data → ReadResult (List CapabilityRow)
capability_of_sort (sort.Routed kind.Protocol) at d = protocol_capability_at at d
capability_of_sort (sort.Routed kind.Directory) at d = directory_capability_at at d
capability_of_sort sort.Storage at d = storage_at at d

-- what an item of `capabilities` is read as
unfoldable pub capability_at : ItemPlace → Data → ReadResult (List CapabilityRow)
capability_at at d = do
  members ← object_at at d
  s ← sort_at at d
  known ← known_at at (capability_fields s) members
  capability_of_sort s at d

-- ---- uses

-- the fields that an item of `use` may have, by what it is about
abbrev pub use_fields : Sort → List (List ℕ)
use_fields (sort.Routed kind.Protocol) =
    codes "protocol" ∷ codes "from" ∷ codes "path" ∷ codes "dependency" ∷ codes "availability" ∷ []
use_fields (sort.Routed kind.Directory) =
    codes "directory" ∷ codes "from" ∷ codes "path" ∷ codes "rights" ∷ codes "subdir"
    ∷ codes "dependency" ∷ codes "availability" ∷ []
use_fields sort.Storage = codes "storage" ∷ codes "from" ∷ codes "path" ∷ codes "availability" ∷ []

-- the row, if it is a use that is routed as capabilities are
abbrev pub usage_in : UseRow → Option Usage
usage_in (use_row.Usage u) = Some u
usage_in (use_row.Debug u) = None
usage_in (use_row.Storage u) = None

-- the row, if it is a use of a debug protocol
abbrev pub debug_use_in : UseRow → Option DebugUse
debug_use_in (use_row.Usage u) = None
debug_use_in (use_row.Debug u) = Some u
debug_use_in (use_row.Storage u) = None

-- the row, if it is a use of a storage
abbrev pub storage_use_in : UseRow → Option StorageUse
storage_use_in (use_row.Usage u) = None
storage_use_in (use_row.Debug u) = None
storage_use_in (use_row.Storage u) = Some u

-- the use of a protocol with this name
abbrev pub protocol_usage : Origin → Option (List ℕ) → Dependency → Availability → List ℕ → Usage
protocol_usage from path dependency availability name = record {
  kind = kind.Protocol;
  name = name;
  from = from;
  path = path_of path name;
  rights = None;
  subdir = None;
  dependency = dependency;
  availability = availability;
}

-- the use of a debug protocol with this name
abbrev pub debug_use : Option (List ℕ) → List ℕ → DebugUse
debug_use path name = record { name = name; path = path_of path name }

-- the row of a protocol that is used, by where it comes from; a debug use keeps no dependency and no
-- availability
abbrev pub protocol_use_row : UseSource → Option (List ℕ) → Dependency → Availability → List ℕ → UseRow
protocol_use_row (source.From from) path dependency availability name =
    use_row.Usage (protocol_usage from path dependency availability name)
protocol_use_row source.Debug path dependency availability name =
    use_row.Debug (debug_use path name)

-- a row of `use` for each of these protocols
unfoldable pub protocols_used_at : ItemPlace → List (List ℕ) → Data → ReadResult (List UseRow)
protocols_used_at at names d = do
  from ← use_source_at at d
  path ← protocol_path_at at names d
  dependency ← dependency_at at d
  availability ← availability_at at d
  Ok (map (protocol_use_row from path dependency availability) names)

-- what an item of `use` with protocols is read as: a row for each name
unfoldable pub protocol_use_at : ItemPlace → Data → ReadResult (List UseRow)
protocol_use_at at d = do
  names ← item_names_at kind.Protocol at d
  protocols_used_at at names d

-- what an item of `use` with a directory is read as: one row
unfoldable pub directory_use_at : ItemPlace → Data → ReadResult (List UseRow)
directory_use_at at d = do
  name ← directory_name_at at d
  from ← use_from_at at d
  path ← path_at at (codes "path") d
  rights ← rights_at at (codes "rights") d
  subdir ← subdir_at at (codes "subdir") d
  dependency ← dependency_at at d
  availability ← availability_at at d
  Ok (use_row.Usage (record {
    kind = kind.Directory;
    name = name;
    from = from;
    path = path;
    rights = Some rights;
    subdir = subdir;
    dependency = dependency;
    availability = availability;
  }) ∷ [])

-- what an item of `use` with a storage is read as: one row; its availability isn't kept
unfoldable pub storage_use_at : ItemPlace → Data → ReadResult (List UseRow)
storage_use_at at d = do
  name ← storage_name_at at d
  from ← storage_use_from_at at d
  path ← path_at at (codes "path") d
  availability ← availability_at at d
  Ok (use_row.Storage (record { name = name; path = path }) ∷ [])

-- what an item of `use` is read as, by what it is about
abbrev pub use_of_sort : Sort → ItemPlace → Data → ReadResult (List UseRow)
use_of_sort (sort.Routed kind.Protocol) at d = protocol_use_at at d
use_of_sort (sort.Routed kind.Directory) at d = directory_use_at at d
use_of_sort sort.Storage at d = storage_use_at at d

-- what an item of `use` is read as
unfoldable pub use_at : ItemPlace → Data → ReadResult (List UseRow)
use_at at d = do
  members ← object_at at d
  s ← sort_at at d
  known ← known_at at (use_fields s) members
  use_of_sort s at d

-- ---- offers and exposes

-- the value of `as`, the name at the target; it may stand beside a single name alone
unfoldable pub as_in_at : ItemPlace → List (List ℕ) → Data → ReadResult (List ℕ)
as_in_at at names d = do
  name ← name_in_at at (codes "as") d
  alone at (codes "as") names name

-- the name at the target, if the item states one
unfoldable pub as_at : ItemPlace → List (List ℕ) → Data → ReadResult (Option (List ℕ))
as_at at names d = if_there (get (codes "as") d) (as_in_at at names)

-- the rights that an offer or an expose states, if it does
unfoldable pub given_rights_at : ItemPlace → Data → ReadResult (Option RightSet)
given_rights_at at d = if_there (get (codes "rights") d) (rights_in_at at (codes "rights"))

-- what one name of an offer or an expose gives; the name at the target is by default the same
abbrev pub give_row : Terms → List ℕ → Give
give_row terms name = record {
  kind = terms.kind;
  source_name = name;
  from = terms.from;
  target_name = unwrap_or terms.target name;
  rights = terms.rights;
  subdir = terms.subdir;
  dependency = terms.dependency;
  availability = terms.availability;
}

-- the fields that an item of `offer` may have, by what it is about
abbrev pub offer_fields : Sort → List (List ℕ)
offer_fields (sort.Routed kind.Protocol) =
    codes "protocol" ∷ codes "from" ∷ codes "to" ∷ codes "as" ∷ codes "dependency" ∷ codes "availability"
    ∷ codes "source_availability" ∷ []
offer_fields (sort.Routed kind.Directory) =
    codes "directory" ∷ codes "from" ∷ codes "to" ∷ codes "as" ∷ codes "rights" ∷ codes "subdir"
    ∷ codes "dependency" ∷ codes "availability" ∷ codes "source_availability" ∷ []
offer_fields sort.Storage =
    codes "storage" ∷ codes "from" ∷ codes "to" ∷ codes "as" ∷ codes "availability" ∷ []

-- the row, if it is an offer that is routed as capabilities are
abbrev pub offer_in : OfferRow → Option Offer
offer_in (offered.Offer o) = Some o
offer_in (offered.Storage o) = None

-- the row, if it is an offer of a storage
abbrev pub storage_offer_in : OfferRow → Option StorageOffer
storage_offer_in (offered.Offer o) = None
storage_offer_in (offered.Storage o) = Some o

-- the children and collections that `to` names, of which an offer has one or more
unfoldable pub targets_at : ItemPlace → Data → ReadResult (List (List ℕ))
targets_at at d = do
  value ← needed_at at (codes "to") d
  references_at at (codes "to") value

-- the offer of this to one target
abbrev pub offer_row : Give → List ℕ → Offer
offer_row give to = record { to = to; give = give }

-- the offers of this, one for each target
abbrev pub offer_rows : List (List ℕ) → Give → List OfferRow
offer_rows targets give = map (λ to. offered.Offer (offer_row give to)) targets

-- the rows of an offer, for each of these names in turn one for each target; `children` are the
-- declared ones
unfoldable pub offered_at : Kind → List Child → ItemPlace → List (List ℕ) → Data → ReadResult (List OfferRow)
offered_at k children at names d = do
  from ← offer_from_at at d
  targets ← targets_at at d
  target ← as_at at names d
  rights ← given_rights_at at d
  subdir ← subdir_at at (codes "subdir") d
  dependency ← dependency_at at d
  availability ← given_availability_at at d
  unknown ← source_unknown_at at d
  Ok (flat_map (offer_rows targets) (map (give_row (record {
    kind = k;
    from = settled children unknown from;
    target = target;
    rights = rights;
    subdir = subdir;
    dependency = dependency;
    availability = availability;
  })) names))

-- what an item of `offer` with protocols or directories is read as
unfoldable pub routed_offer_at : Kind → List Child → ItemPlace → Data → ReadResult (List OfferRow)
routed_offer_at k children at d = do
  names ← item_names_at k at d
  offered_at k children at names d

-- the offer of a storage to one target
abbrev pub storage_offer : Origin → Option (List ℕ) → List ℕ → List ℕ → StorageOffer
storage_offer from target name to = record {
  to = to;
  source_name = name;
  from = from;
  target_name = unwrap_or target name;
}

-- the offers of a storage, one for each target
abbrev pub storage_offer_rows : Origin → Option (List ℕ) → List (List ℕ) → List ℕ → List OfferRow
storage_offer_rows from target targets name =
    map (λ to. offered.Storage (storage_offer from target name to)) targets

-- the rows of an offer of storages, for each of these names in turn one for each target; its
-- availability isn't kept
unfoldable pub storages_offered_at : ItemPlace → List (List ℕ) → Data → ReadResult (List OfferRow)
storages_offered_at at names d = do
  from ← storage_from_at at d
  targets ← targets_at at d
  target ← as_at at names d
  availability ← given_availability_at at d
  Ok (flat_map (storage_offer_rows from target targets) names)

-- what an item of `offer` with storages is read as
unfoldable pub storage_offer_at : ItemPlace → Data → ReadResult (List OfferRow)
storage_offer_at at d = do
  names ← storage_names_at at d
  storages_offered_at at names d

-- what an item of `offer` is read as, by what it is about
abbrev pub offer_of_sort : Sort → List Child → ItemPlace → Data → ReadResult (List OfferRow)
offer_of_sort (sort.Routed k) children at d = routed_offer_at k children at d
offer_of_sort sort.Storage children at d = storage_offer_at at d

-- what an item of `offer` is read as; `children` are the declared ones, by which a source may be
-- missing
unfoldable pub offer_at : List Child → ItemPlace → Data → ReadResult (List OfferRow)
offer_at children at d = do
  members ← object_at at d
  s ← sort_at at d
  known ← known_at at (offer_fields s) members
  offer_of_sort s children at d

-- the fields that an item of `expose` may have, by its kind
abbrev pub expose_fields : Kind → List (List ℕ)
expose_fields kind.Protocol =
    codes "protocol" ∷ codes "from" ∷ codes "to" ∷ codes "as" ∷ codes "availability"
    ∷ codes "source_availability" ∷ []
expose_fields kind.Directory =
    codes "directory" ∷ codes "from" ∷ codes "to" ∷ codes "as" ∷ codes "rights" ∷ codes "subdir"
    ∷ codes "availability" ∷ codes "source_availability" ∷ []

-- the rows of an expose, one for each of these names; `children` are the declared ones
unfoldable pub exposed_at : Kind → List Child → ItemPlace → List (List ℕ) → Data → ReadResult (List Give)
exposed_at k children at names d = do
  from ← expose_from_at at d
  to ← expose_to_at at d
  target ← as_at at names d
  rights ← given_rights_at at d
  subdir ← subdir_at at (codes "subdir") d
  availability ← given_availability_at at d
  unknown ← source_unknown_at at d
  Ok (map (give_row (record {
    kind = k;
    from = settled children unknown from;
    target = target;
    rights = rights;
    subdir = subdir;
    dependency = Strong;
    availability = availability;
  })) names)

-- what an item of `expose` is read as; `children` are the declared ones, by which a source may be
-- missing
unfoldable pub expose_at : List Child → ItemPlace → Data → ReadResult (List Give)
expose_at children at d = do
  members ← object_at at d
  k ← kind_at at d
  known ← known_at at (expose_fields k) members
  names ← item_names_at k at d
  exposed_at k children at names d
