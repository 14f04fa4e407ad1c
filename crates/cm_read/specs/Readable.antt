-- Promised.
-- Which declarations some manifest has: they are exactly the readable ones.
use Rattle.std.specs.Prelude.{◌≡◌, ◌≢◌, ℕ, ◌≤◌, ◌+◌, List, length, Bool, true, false, Option, Some, None}
use Rattle.std.specs.Prelude.{IsTrue, All}
use Rattle.cm_names.specs.Name.{IsName}
use Rattle.cm_names.specs.Path.{is_path, is_subdir}
use Rattle.cm_names.specs.Rights.{RightSet, no_rights}
use Rattle.cm_names.specs.declared.dependency.Dependency.TheVariants.{Strong}
use Rattle.cm_names.specs.declared.availability.Availability.TheVariants.{SameAsTarget}
use Rattle.cm_decl.specs.declared.kind.Kind.{Kind}
use Rattle.cm_decl.specs.declared.kind.Kind.TheVariants as kind
use Rattle.cm_decl.specs.declared.origin.Origin.{Origin}
use Rattle.cm_decl.specs.declared.origin.Origin.TheVariants as origin
use Rattle.cm_decl.specs.declared.rows.Child.{Child}
use Rattle.cm_decl.specs.declared.rows.Collection.{Collection}
use Rattle.cm_decl.specs.declared.rows.Capability.{Capability}
use Rattle.cm_decl.specs.declared.rows.Usage.{Usage}
use Rattle.cm_decl.specs.declared.rows.Give.{Give}
use Rattle.cm_decl.specs.declared.rows.Offer.{Offer}
use Rattle.cm_decl.specs.declared.environment.Registration.{Registration}
use Rattle.cm_decl.specs.declared.environment.Environment.{Environment}
use Rattle.cm_decl.specs.declared.environment.DebugUse.{DebugUse}
use Rattle.cm_decl.specs.declared.storage.Storage.{Storage}
use Rattle.cm_decl.specs.declared.storage.StorageUse.{StorageUse}
use Rattle.cm_decl.specs.declared.storage.StorageOffer.{StorageOffer}
use Rattle.cm_decl.specs.declared.decl.Decl.{Decl}
use Rattle.cm_read.specs.Numbers.{max_rows}
use Rattle.cm_names.specs.Urls.{is_url_text}

-- ---- values

-- rights, at least one of which a list of words has to name
abbrev pub AreRights : RightSet → Type 0
AreRights rights = rights ≢ no_rights

-- the text is a subdirectory: parts joined by slashes
abbrev pub IsSubDir : List ℕ → Type 0
IsSubDir t = IsTrue (is_subdir t)

-- a source that a section allows; whether it allows the parent and the void is said. A child is in no
-- collection
abbrev pub IsOriginRow : Bool → Bool → Origin → Type 0
IsOriginRow parent void origin.Parent = IsTrue parent
IsOriginRow parent void origin.Own = Unit {0}
IsOriginRow parent void origin.Framework = Unit {0}
IsOriginRow parent void (origin.Child child) = (child.coll ≡ None) × IsName child.name
IsOriginRow parent void origin.Void = IsTrue void

-- the source of a registration or a storage: the parent, the component itself, or a child in no collection
abbrev pub IsStaticSource : Origin → Type 0
IsStaticSource origin.Parent = Unit {0}
IsStaticSource origin.Own = Unit {0}
IsStaticSource (origin.Child child) = (child.coll ≡ None) × IsName child.name
IsStaticSource _ = ⊥

-- the source of an offer of a storage: the parent, the component itself, or void
abbrev pub IsStorageSource : Origin → Type 0
IsStorageSource origin.Parent = Unit {0}
IsStorageSource origin.Own = Unit {0}
IsStorageSource origin.Void = Unit {0}
IsStorageSource _ = ⊥

-- P holds of the value, if there is one
abbrev pub ForSomeOf : {A : Type 0} → Option A → (A → Type 0) → Type 0
ForSomeOf None P = Unit {0}
ForSomeOf (Some x) P = P x

-- a value that only a directory may have, and which holds P
abbrev pub MayHave : {A : Type 0} → Kind → Option A → (A → Type 0) → Type 0
MayHave kind.Protocol given P = given ≡ None
MayHave kind.Directory given P = ForSomeOf given P

-- a value that a directory has to have, and which holds P; a protocol has none
abbrev pub MustHave : {A : Type 0} → Kind → Option A → (A → Type 0) → Type 0
MustHave kind.Protocol given P = given ≡ None
MustHave kind.Directory None P = ⊥
MustHave kind.Directory (Some x) P = P x

-- ---- rows

-- a child that an item of `children` can be read as
pub record IsChildRow (c : Child) : Type 0 where
  pub name : IsName c.name
  pub url : IsTrue (is_url_text c.url)
  pub environment : ForSomeOf c.environment IsName

-- a collection that an item of `collections` can be read as
pub record IsCollection (c : Collection) : Type 0 where
  pub name : IsName c.name
  pub environment : ForSomeOf c.environment IsName

-- a capability that an item of `capabilities` can be read as
pub record IsCapability (c : Capability) : Type 0 where
  pub name : IsName c.name
  pub path : IsTrue (is_path c.path)
  pub rights : MustHave c.kind c.rights AreRights

-- a use that an item of `use` can be read as
pub record IsUsage (u : Usage) : Type 0 where
  pub name : IsName u.name
  pub from : IsOriginRow true false u.from
  pub path : IsTrue (is_path u.path)
  pub rights : MustHave u.kind u.rights AreRights
  pub subdir : MayHave u.kind u.subdir IsSubDir
  pub availability : u.availability ≢ SameAsTarget

-- what an item of `offer` or `expose` can give; whether it may come from the parent is said
pub record IsGiveRow (parent : Bool) (g : Give) : Type 0 where
  pub source_name : IsName g.source_name
  pub from : IsOriginRow parent true g.from
  pub target_name : IsName g.target_name
  pub rights : MayHave g.kind g.rights AreRights
  pub subdir : MayHave g.kind g.subdir IsSubDir

-- an offer that an item of `offer` can be read as
pub record IsOffer (o : Offer) : Type 0 where
  pub to : IsName o.to
  pub give : IsGiveRow true o.give

-- an expose that an item of `expose` can be read as
pub record IsExpose (g : Give) : Type 0 where
  pub give : IsGiveRow false g
  pub dependency : g.dependency ≡ Strong

-- a registration that an item of `runners` or `debug` can be read as
pub record IsRegistration (r : Registration) : Type 0 where
  pub name : IsName r.name
  pub from : IsStaticSource r.from
  pub target : IsName r.target

-- an environment that an item of `environments` can be read as
pub record IsEnvironment (e : Environment) : Type 0 where
  pub name : IsName e.name
  pub runners : All IsRegistration e.runners
  pub debug : All IsRegistration e.debug

-- a debug use that an item of `use` can be read as
pub record IsDebugUse (u : DebugUse) : Type 0 where
  pub name : IsName u.name
  pub path : IsTrue (is_path u.path)

-- a storage that an item of `capabilities` can be read as
pub record IsStorage (s : Storage) : Type 0 where
  pub name : IsName s.name
  pub from : IsStaticSource s.from
  pub backing : IsName s.backing
  pub subdir : ForSomeOf s.subdir IsSubDir

-- a use of a storage that an item of `use` can be read as
pub record IsStorageUse (u : StorageUse) : Type 0 where
  pub name : IsName u.name
  pub path : IsTrue (is_path u.path)

-- an offer of a storage that an item of `offer` can be read as
pub record IsStorageOffer (o : StorageOffer) : Type 0 where
  pub to : IsName o.to
  pub source_name : IsName o.source_name
  pub from : IsStorageSource o.from
  pub target_name : IsName o.target_name

-- rows that a section can be read as, within the limit of rows
pub record AreRows {A : Type 0} (IsRow : A → Type 0) (rows : List A) : Type 0 where
  pub limit : length rows ≤ max_rows
  pub each : All IsRow rows

-- ---- declarations

-- a declaration that some manifest is read as
pub record IsReadable (d : Decl) : Type 0 where
  pub runner : ForSomeOf d.runner IsName
  pub children : AreRows IsChildRow d.children
  pub collections : AreRows IsCollection d.collections
  pub capabilities : AreRows IsCapability d.capabilities
  pub uses : AreRows IsUsage d.uses
  pub offers : AreRows IsOffer d.offers
  pub exposes : AreRows IsExpose d.exposes
  pub environments : AreRows IsEnvironment d.environments
  pub debug_uses : All IsDebugUse d.debug_uses
  pub storages : All IsStorage d.storages
  pub storage_uses : All IsStorageUse d.storage_uses
  pub storage_offers : All IsStorageOffer d.storage_offers
  -- all rows of one section count for its limit
  pub capability_rows : length d.capabilities + length d.storages ≤ max_rows
  pub use_rows : length d.uses + (length d.debug_uses + length d.storage_uses) ≤ max_rows
  pub offer_rows : length d.offers + length d.storage_offers ≤ max_rows
