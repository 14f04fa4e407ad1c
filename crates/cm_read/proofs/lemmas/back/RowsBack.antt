-- What is written for a capability, a use, an offer, an expose or an environment is read back.
use Rattle.std.proofs.Common.{◌≡◌, ℕ, suc, List, [], ◌∷◌, map, codes, true, false, Option, Some, None, Ok, IsTrue, refl, sym, subst, arith, rules}
use Rattle.serde_json.specs.Data.{string}
use Rattle.serde_json.specs.View.{items_of}
use Rattle.cm_names.specs.Name.{IsName}
use Rattle.cm_names.specs.Path.{is_path}
use Rattle.cm_names.specs.Availability.{availability_word, dependency_word}
use Rattle.cm_names.specs.Rights.{RightSet, words_of}
use Rattle.cm_names.proofs.lemmas.texts.Path.{path_faultless, subdir_faultless}
use Rattle.cm_names.proofs.lemmas.sets.Word.{words_are_read_back_lem}
use Rattle.cm_decl.specs.declared.kind.Kind.{Kind}
use Rattle.cm_decl.specs.declared.kind.Kind.TheVariants as kind
use Rattle.cm_decl.specs.declared.origin.Origin.{Origin}
use Rattle.cm_decl.specs.declared.origin.Origin.TheVariants as origin
use Rattle.cm_decl.specs.declared.rows.Capability.{Capability}
use Rattle.cm_decl.specs.declared.rows.Usage.{Usage}
use Rattle.cm_decl.specs.declared.rows.Give.{Give}
use Rattle.cm_decl.specs.declared.rows.Offer.{Offer}
use Rattle.cm_names.specs.declared.dependency.Dependency.{Dependency}
use Rattle.cm_names.specs.declared.dependency.Dependency.TheVariants.{Strong, Weak}
use Rattle.cm_names.specs.declared.availability.Availability.{Availability}
use Rattle.cm_names.specs.declared.availability.Availability.TheVariants.{Required, Optional, Transitional}
use Rattle.cm_names.specs.declared.availability.Availability.TheVariants.{SameAsTarget}
use Rattle.std.specs.Prelude.{All, ◌≢◌, Bool}
use Rattle.cm_names.proofs.lemmas.texts.Name.{name_faultless}
use Rattle.cm_decl.specs.declared.rows.Child.{Child}
use Rattle.cm_decl.specs.declared.environment.Registration.{Registration}
use Rattle.cm_decl.specs.declared.environment.Environment.{Environment}
use Rattle.cm_decl.specs.declared.environment.DebugUse.{DebugUse}
use Rattle.cm_decl.specs.declared.storage.Storage.{Storage}
use Rattle.cm_decl.specs.declared.storage.StorageUse.{StorageUse}
use Rattle.cm_decl.specs.declared.storage.StorageOffer.{StorageOffer}
use Rattle.cm_read.specs.declared.fault.ItemPlace.{ItemPlace}
use Rattle.cm_read.specs.declared.rows.UseSource.TheVariants as source
use Rattle.cm_read.specs.declared.rows.CapabilityRow.TheVariants as capability_row
use Rattle.cm_read.specs.declared.rows.UseRow.TheVariants as use_row
use Rattle.cm_read.specs.declared.rows.OfferRow.TheVariants as offered
use Rattle.cm_read.specs.declared.rows.Registry.{Registry}
use Rattle.cm_read.specs.declared.rows.Registry.TheVariants.{Runners, Debug}
use Rattle.cm_read.specs.Fields.{texts_in_at, rights_in_at}
use Rattle.cm_read.specs.Words.{dependency_named, availability_named, given_availability_named, settled}
use Rattle.cm_read.specs.Words.{use_from_in_at, use_source_in_at, offer_from_in_at, expose_from_in_at}
use Rattle.cm_read.specs.Words.{static_from_in_at, storage_origin_named}
use Rattle.cm_read.specs.Items.{capability_at, use_at, offer_at, expose_at}
use Rattle.cm_read.specs.Environments.{registration_at, registrations_in_at, environment_item_at}
use Rattle.cm_write.specs.Writing.{capability_data, use_data, offer_data, expose_data, list_of, origin_text}
use Rattle.cm_write.specs.Writing.{storage_data, debug_use_data, storage_use_data, storage_offer_data}
use Rattle.cm_write.specs.Writing.{registration_data, environment_data}
use Rattle.cm_read.specs.Readable.{MayHave, IsSubDir, IsUsage, IsOffer, IsExpose, IsOriginRow, IsCapability}
use Rattle.cm_read.specs.Readable.{MustHave, AreRights, IsStaticSource, IsStorageSource, ForSomeOf}
use Rattle.cm_read.specs.Readable.{IsRegistration, IsEnvironment, IsDebugUse, IsStorage, IsStorageUse}
use Rattle.cm_read.specs.Readable.{IsStorageOffer}
use Rattle.cm_read.proofs.lemmas.examples.OnLiterals.{read_on_literals}

-- Texts that are written as strings are read back as these.
texts_back : (at : ItemPlace) (key : List ℕ) (ts : List (List ℕ)) → texts_in_at at key (items_of (map string ts)) ≡ Ok ts
texts_back at key [] = refl
texts_back at key (t ∷ ts) = rw (texts_back at key ts) refl

-- The words that are written for rights, if there are any, are read as these rights.
pub rights_back : (at : ItemPlace) (key : List ℕ) (r : RightSet) → AreRights r → rights_in_at at key (list_of string (words_of r)) ≡ Ok r
unfolding rights_in_at
rights_back at key r h = rw (texts_back at key (words_of r)) (rw (words_are_read_back_lem r h) refl)

-- The word of a dependency is read as that dependency.
pub dependency_back : (d : Dependency) → dependency_named (dependency_word d) ≡ Some d
unfolding dependency_named
dependency_back Strong = refl
dependency_back Weak = refl

-- The word of an availability other than that of the target is read as that availability.
pub availability_back : (a : Availability) → a ≢ SameAsTarget → availability_named (availability_word a) ≡ Some a
unfolding availability_named
availability_back Required h = refl
availability_back Optional h = refl
availability_back Transitional h = refl
availability_back SameAsTarget h = absurd (h refl)

-- The word of an availability that is given is read as that availability.
pub given_availability_back : (a : Availability) → given_availability_named (availability_word a) ≡ Some a
unfolding availability_named given_availability_named
given_availability_back Required = refl
given_availability_back Optional = refl
given_availability_back Transitional = refl
given_availability_back SameAsTarget = refl

-- what is written has no `source_availability`
settled_back : (children : List Child) (o : Origin) → settled children false o ≡ o
settled_back children origin.Parent = refl
settled_back children origin.Own = refl
settled_back children origin.Framework = refl
settled_back children (origin.Child c) = refl
settled_back children origin.Void = refl

-- A child in no collection, written as a use's source, is read back as that source.
child_back : (at : ItemPlace) (coll : Option (List ℕ)) (name : List ℕ) → coll ≡ None → IsName name → use_from_in_at at (string (origin_text (origin.Child (record { coll = coll; name = name })))) ≡ Ok (origin.Child (record { coll = coll; name = name }))
unfolding read_on_literals
child_back at None name e h = rw (name_faultless name h) refl
child_back at (Some c) name e h = absurd (grind (arith, rules))

-- The text of a source that uses allow is read as the source of a use.
pub use_from_back : (at : ItemPlace) (o : Origin) → IsOriginRow true false o → use_from_in_at at (string (origin_text o)) ≡ Ok o
unfolding read_on_literals
use_from_back at origin.Parent h = refl
use_from_back at origin.Own h = refl
use_from_back at origin.Framework h = refl
use_from_back at (origin.Child c) h = child_back at c.coll c.name h.0 h.1
use_from_back at origin.Void h = absurd (grind (arith, rules))

-- A child in no collection, written as a use's source, is read back among all such sources.
source_child_back : (at : ItemPlace) (coll : Option (List ℕ)) (name : List ℕ) → coll ≡ None → IsName name
    → use_source_in_at at (string (origin_text (origin.Child (record { coll = coll; name = name }))))
    ≡ Ok (source.From (origin.Child (record { coll = coll; name = name })))
unfolding read_on_literals
source_child_back at None name e h = rw (name_faultless name h) refl
source_child_back at (Some c) name e h = absurd (grind (arith, rules))

-- The text of a source that uses allow is read as where a used protocol comes from.
pub use_source_back : (at : ItemPlace) (o : Origin) → IsOriginRow true false o
    → use_source_in_at at (string (origin_text o)) ≡ Ok (source.From o)
unfolding read_on_literals
use_source_back at origin.Parent h = refl
use_source_back at origin.Own h = refl
use_source_back at origin.Framework h = refl
use_source_back at (origin.Child c) h = source_child_back at c.coll c.name h.0 h.1
use_source_back at origin.Void h = absurd (grind (arith, rules))

-- A child in no collection, written as a static source, is read back as that source.
static_child_back : (at : ItemPlace) (coll : Option (List ℕ)) (name : List ℕ) → coll ≡ None → IsName name
    → static_from_in_at at (string (origin_text (origin.Child (record { coll = coll; name = name }))))
    ≡ Ok (origin.Child (record { coll = coll; name = name }))
unfolding read_on_literals
static_child_back at None name e h = rw (name_faultless name h) refl
static_child_back at (Some c) name e h = absurd (grind (arith, rules))

-- The text of a source that registrations allow is read as that source.
pub static_from_back : (at : ItemPlace) (o : Origin) → IsStaticSource o
    → static_from_in_at at (string (origin_text o)) ≡ Ok o
unfolding read_on_literals
static_from_back at origin.Parent h = refl
static_from_back at origin.Own h = refl
static_from_back at origin.Framework h = absurd h
static_from_back at (origin.Child c) h = static_child_back at c.coll c.name h.0 h.1
static_from_back at origin.Void h = absurd h

-- The text of a storage's source names that source.
storage_from_back : (o : Origin) → IsStorageSource o → storage_origin_named (origin_text o) ≡ Some o
unfolding read_on_literals
storage_from_back origin.Parent h = refl
storage_from_back origin.Own h = refl
storage_from_back origin.Framework h = absurd h
storage_from_back (origin.Child c) h = absurd h
storage_from_back origin.Void h = refl

-- What is written for a capability by its parts, where these are right, is read back as it.
capability_parts : (at : ItemPlace) (k : Kind) (name path : List ℕ) (rights : Option RightSet) → IsName name → IsTrue (is_path path) → MustHave k rights AreRights → capability_at at (capability_data (record { kind = k; name = name; path = path; rights = rights })) ≡ Ok (capability_row.Capability (record { kind = k; name = name; path = path; rights = rights }) ∷ [])
unfolding read_on_literals
capability_parts at kind.Protocol name path None n p r = rw (name_faultless name n) (rw (path_faultless path p) refl)
capability_parts at kind.Protocol name path (Some x) n p r = absurd (grind (arith, rules))
capability_parts at kind.Directory name path None n p r = absurd r
capability_parts at kind.Directory name path (Some x) n p r = rw (name_faultless name n) (rw (path_faultless path p) (rw (rights_back at (codes "rights") x r) refl))

-- What is written for a capability that an item can be read as is read as that capability.
pub capability_read_back : (at : ItemPlace) (c : Capability) → IsCapability c → capability_at at (capability_data c) ≡ Ok (capability_row.Capability c ∷ [])
capability_read_back at c h = capability_parts at c.kind c.name c.path c.rights h.name h.path h.rights

-- What is written for a storage by its parts, where these are right, is read back as it.
storage_parts : (at : ItemPlace) (name : List ℕ) (from : Origin) (backing : List ℕ) (subdir : Option (List ℕ)) (by_moniker : Bool)
    → IsName name → IsStaticSource from → IsName backing → ForSomeOf subdir IsSubDir
    → capability_at at (storage_data (record { name = name; from = from; backing = backing; subdir = subdir; by_moniker = by_moniker }))
    ≡ Ok (capability_row.Storage (record { name = name; from = from; backing = backing; subdir = subdir; by_moniker = by_moniker }) ∷ [])
unfolding read_on_literals
storage_parts at name from backing None true n f b s = rw (name_faultless name n) (rw (static_from_back at from f) (rw (name_faultless backing b) refl))
storage_parts at name from backing None false n f b s = rw (name_faultless name n) (rw (static_from_back at from f) (rw (name_faultless backing b) refl))
storage_parts at name from backing (Some y) true n f b s = rw (name_faultless name n) (rw (static_from_back at from f) (rw (name_faultless backing b) (rw (subdir_faultless y s) refl)))
storage_parts at name from backing (Some y) false n f b s = rw (name_faultless name n) (rw (static_from_back at from f) (rw (name_faultless backing b) (rw (subdir_faultless y s) refl)))

-- What is written for a storage that an item can be read as is read as that storage.
pub storage_read_back : (at : ItemPlace) (s : Storage) → IsStorage s → capability_at at (storage_data s) ≡ Ok (capability_row.Storage s ∷ [])
storage_read_back at s h = storage_parts at s.name s.from s.backing s.subdir s.by_moniker h.name h.from h.backing h.subdir

-- What is written for a debug use that an item can be read as is read as that debug use.
pub debug_use_read_back : (at : ItemPlace) (u : DebugUse) → IsDebugUse u → use_at at (debug_use_data u) ≡ Ok (use_row.Debug u ∷ [])
unfolding read_on_literals
debug_use_read_back at u h = rw (name_faultless u.name h.name) (rw (path_faultless u.path h.path) refl)

-- What is written for a use of a storage that an item can be read as is read as that use.
pub storage_use_read_back : (at : ItemPlace) (u : StorageUse) → IsStorageUse u → use_at at (storage_use_data u) ≡ Ok (use_row.Storage u ∷ [])
unfolding read_on_literals
storage_use_read_back at u h = rw (name_faultless u.name h.name) (rw (path_faultless u.path h.path) refl)

-- What is written for an offer of a storage that an item can be read as is read as that offer.
pub storage_offer_read_back : (children : List Child) (at : ItemPlace) (o : StorageOffer) → IsStorageOffer o
    → offer_at children at (storage_offer_data o) ≡ Ok (offered.Storage o ∷ [])
unfolding read_on_literals
storage_offer_read_back children at o h =
    rw (name_faultless o.source_name h.source_name) (rw (storage_from_back o.from h.from) (rw (name_faultless o.to h.to)
    (rw (name_faultless o.target_name h.target_name) refl)))

-- What is written for a runner's registration is read back as it.
runner_read_back : (at : ItemPlace) (r : Registration) → IsRegistration r
    → registration_at Runners at (registration_data (codes "runner") r) ≡ Ok (r ∷ [])
unfolding read_on_literals
runner_read_back at r h =
    rw (name_faultless r.name h.name) (rw (static_from_back at r.from h.from) (rw (name_faultless r.target h.target) refl))

-- What is written for a debug registration is read back as it.
debug_read_back : (at : ItemPlace) (r : Registration) → IsRegistration r
    → registration_at Debug at (registration_data (codes "protocol") r) ≡ Ok (r ∷ [])
unfolding read_on_literals
debug_read_back at r h =
    rw (name_faultless r.name h.name) (rw (static_from_back at r.from h.from) (rw (name_faultless r.target h.target) refl))

-- Registrations that are right are read back from what is written for them, where each is.
registrations_back : (which : Registry) (key : List ℕ) (at : ItemPlace) (rs : List Registration)
    → ((at : ItemPlace) (r : Registration) → IsRegistration r → registration_at which at (registration_data key r) ≡ Ok (r ∷ []))
    → All IsRegistration rs → registrations_in_at which at (items_of (map (registration_data key) rs)) ≡ Ok rs
registrations_back which key at [] one h = refl
registrations_back which key at (r ∷ rs) one h =
    rw (one at r (h 0 r (omega arith))) (rw (registrations_back which key at rs one (λ k d lt. h (suc k) d (omega arith))) refl)

-- What is written for an environment by its parts, where these are right, is read back as it.
environment_parts : (at : ItemPlace) (name : List ℕ) (extends : Bool) (runners debug : List Registration) → IsName name
    → All IsRegistration runners → All IsRegistration debug
    → environment_item_at at (environment_data (record { name = name; extends = extends; runners = runners; debug = debug }))
    ≡ Ok (record { name = name; extends = extends; runners = runners; debug = debug } ∷ [])
unfolding read_on_literals
environment_parts at name true runners debug n r d = rw (name_faultless name n) (rw (registrations_back Runners (codes "runner") at runners runner_read_back r) (rw (registrations_back Debug (codes "protocol") at debug debug_read_back d) refl))
environment_parts at name false runners debug n r d = rw (name_faultless name n) (rw (registrations_back Runners (codes "runner") at runners runner_read_back r) (rw (registrations_back Debug (codes "protocol") at debug debug_read_back d) refl))

-- What is written for an environment that an item can be read as is read as that environment.
pub environment_read_back : (at : ItemPlace) (e : Environment) → IsEnvironment e → environment_item_at at (environment_data e) ≡ Ok (e ∷ [])
environment_read_back at e h = environment_parts at e.name e.extends e.runners e.debug h.name h.runners h.debug

-- A child in no collection, written as an offer's source, is read back as that source.
offer_child_back : (at : ItemPlace) (coll : Option (List ℕ)) (name : List ℕ) → coll ≡ None → IsName name → offer_from_in_at at (string (origin_text (origin.Child (record { coll = coll; name = name })))) ≡ Ok (origin.Child (record { coll = coll; name = name }))
unfolding read_on_literals
offer_child_back at None name e h = rw (name_faultless name h) refl
offer_child_back at (Some c) name e h = absurd (grind (arith, rules))

-- The text of a source that offers allow is read as that source.
pub offer_from_back : (at : ItemPlace) (o : Origin) → IsOriginRow true true o → offer_from_in_at at (string (origin_text o)) ≡ Ok o
unfolding read_on_literals
offer_from_back at origin.Parent h = refl
offer_from_back at origin.Own h = refl
offer_from_back at origin.Framework h = refl
offer_from_back at (origin.Child c) h = offer_child_back at c.coll c.name h.0 h.1
offer_from_back at origin.Void h = refl

-- A child in no collection, written as an expose's source, is read back as that source.
expose_child_back : (at : ItemPlace) (coll : Option (List ℕ)) (name : List ℕ) → coll ≡ None → IsName name → expose_from_in_at at (string (origin_text (origin.Child (record { coll = coll; name = name })))) ≡ Ok (origin.Child (record { coll = coll; name = name }))
unfolding read_on_literals
expose_child_back at None name e h = rw (name_faultless name h) refl
expose_child_back at (Some c) name e h = absurd (grind (arith, rules))

-- The text of a source that exposes allow is read as that source.
pub expose_from_back : (at : ItemPlace) (o : Origin) → IsOriginRow false true o → expose_from_in_at at (string (origin_text o)) ≡ Ok o
unfolding read_on_literals
expose_from_back at origin.Parent h = absurd (grind (arith, rules))
expose_from_back at origin.Own h = refl
expose_from_back at origin.Framework h = refl
expose_from_back at (origin.Child c) h = expose_child_back at c.coll c.name h.0 h.1
expose_from_back at origin.Void h = refl

-- What is written for a use by its parts, where these are right, is read back as it.
use_parts : (at : ItemPlace) (k : Kind) (name : List ℕ) (from : Origin) (path : List ℕ) (rights : Option RightSet) (subdir : Option (List ℕ)) (d : Dependency) (a : Availability) → IsName name → IsOriginRow true false from → IsTrue (is_path path) → MustHave k rights AreRights → MayHave k subdir IsSubDir → a ≢ SameAsTarget → use_at at (use_data (record { kind = k; name = name; from = from; path = path; rights = rights; subdir = subdir; dependency = d; availability = a })) ≡ Ok (use_row.Usage (record { kind = k; name = name; from = from; path = path; rights = rights; subdir = subdir; dependency = d; availability = a }) ∷ [])
unfolding read_on_literals
use_parts at kind.Protocol name from path None None d a n f p r s g = rw (name_faultless name n) (rw (use_source_back at from f) (rw (path_faultless path p) (rw (dependency_back d) (rw (availability_back a g) refl))))
use_parts at kind.Protocol name from path (Some x) subdir d a n f p r s g = absurd (grind (arith, rules))
use_parts at kind.Protocol name from path None (Some x) d a n f p r s g = absurd (grind (arith, rules))
use_parts at kind.Directory name from path None subdir d a n f p r s g = absurd r
use_parts at kind.Directory name from path (Some x) None d a n f p r s g = rw (name_faultless name n) (rw (use_from_back at from f) (rw (path_faultless path p) (rw (rights_back at (codes "rights") x r) (rw (dependency_back d) (rw (availability_back a g) refl)))))
use_parts at kind.Directory name from path (Some x) (Some y) d a n f p r s g = rw (name_faultless name n) (rw (use_from_back at from f) (rw (path_faultless path p) (rw (rights_back at (codes "rights") x r) (rw (subdir_faultless y s) (rw (dependency_back d) (rw (availability_back a g) refl))))))

-- What is written for a use of a protocol or directory that an item can be read as is read as it.
pub use_read_back : (at : ItemPlace) (u : Usage) → IsUsage u → use_at at (use_data u) ≡ Ok (use_row.Usage u ∷ [])
use_read_back at u h = use_parts at u.kind u.name u.from u.path u.rights u.subdir u.dependency u.availability h.name h.from h.path h.rights h.subdir h.availability

-- What is written for an offer by its parts, where these are right, is read back as it.
offer_parts : (children : List Child) (at : ItemPlace) (k : Kind) (to name : List ℕ) (from : Origin) (target : List ℕ) (rights : Option RightSet) (subdir : Option (List ℕ)) (d : Dependency) (a : Availability) → IsName to → IsName name → IsOriginRow true true from → IsName target → MayHave k rights AreRights → MayHave k subdir IsSubDir → offer_at children at (offer_data (record { to = to; give = record { kind = k; source_name = name; from = from; target_name = target; rights = rights; subdir = subdir; dependency = d; availability = a } })) ≡ Ok (offered.Offer (record { to = to; give = record { kind = k; source_name = name; from = from; target_name = target; rights = rights; subdir = subdir; dependency = d; availability = a } }) ∷ [])
unfolding read_on_literals
offer_parts children at kind.Protocol to name from target None None d a o n f t r s = rw (name_faultless name n) (rw (offer_from_back at from f) (rw (name_faultless to o) (rw (name_faultless target t) (rw (dependency_back d) (rw (given_availability_back a) (rw (settled_back children from) refl))))))
offer_parts children at kind.Protocol to name from target (Some x) subdir d a o n f t r s = absurd (grind (arith, rules))
offer_parts children at kind.Protocol to name from target None (Some y) d a o n f t r s = absurd (grind (arith, rules))
offer_parts children at kind.Directory to name from target None None d a o n f t r s = rw (name_faultless name n) (rw (offer_from_back at from f) (rw (name_faultless to o) (rw (name_faultless target t) (rw (dependency_back d) (rw (given_availability_back a) (rw (settled_back children from) refl))))))
offer_parts children at kind.Directory to name from target (Some x) None d a o n f t r s = rw (name_faultless name n) (rw (offer_from_back at from f) (rw (name_faultless to o) (rw (name_faultless target t) (rw (rights_back at (codes "rights") x r) (rw (dependency_back d) (rw (given_availability_back a) (rw (settled_back children from) refl)))))))
offer_parts children at kind.Directory to name from target None (Some y) d a o n f t r s = rw (name_faultless name n) (rw (offer_from_back at from f) (rw (name_faultless to o) (rw (name_faultless target t) (rw (subdir_faultless y s) (rw (dependency_back d) (rw (given_availability_back a) (rw (settled_back children from) refl)))))))
offer_parts children at kind.Directory to name from target (Some x) (Some y) d a o n f t r s = rw (name_faultless name n) (rw (offer_from_back at from f) (rw (name_faultless to o) (rw (name_faultless target t) (rw (rights_back at (codes "rights") x r) (rw (subdir_faultless y s) (rw (dependency_back d) (rw (given_availability_back a) (rw (settled_back children from) refl))))))))

-- What is written for an offer of a capability that an item can be read as is read as that offer.
pub offer_read_back : (children : List Child) (at : ItemPlace) (o : Offer) → IsOffer o → offer_at children at (offer_data o) ≡ Ok (offered.Offer o ∷ [])
offer_read_back children at o h = offer_parts children at o.give.kind o.to o.give.source_name o.give.from o.give.target_name o.give.rights o.give.subdir o.give.dependency o.give.availability h.to h.give.source_name h.give.from h.give.target_name h.give.rights h.give.subdir

-- What is written for an expose by its parts, where these are right, is read back as it.
expose_parts : (children : List Child) (at : ItemPlace) (k : Kind) (name : List ℕ) (from : Origin) (target : List ℕ) (rights : Option RightSet) (subdir : Option (List ℕ)) (a : Availability) → IsName name → IsOriginRow false true from → IsName target → MayHave k rights AreRights → MayHave k subdir IsSubDir → expose_at children at (expose_data (record { kind = k; source_name = name; from = from; target_name = target; rights = rights; subdir = subdir; dependency = Strong; availability = a })) ≡ Ok (record { kind = k; source_name = name; from = from; target_name = target; rights = rights; subdir = subdir; dependency = Strong; availability = a } ∷ [])
unfolding read_on_literals
expose_parts children at kind.Protocol name from target None None a n f t r s = rw (name_faultless name n) (rw (expose_from_back at from f) (rw (name_faultless target t) (rw (given_availability_back a) (rw (settled_back children from) refl))))
expose_parts children at kind.Protocol name from target (Some x) subdir a n f t r s = absurd (grind (arith, rules))
expose_parts children at kind.Protocol name from target None (Some y) a n f t r s = absurd (grind (arith, rules))
expose_parts children at kind.Directory name from target None None a n f t r s = rw (name_faultless name n) (rw (expose_from_back at from f) (rw (name_faultless target t) (rw (given_availability_back a) (rw (settled_back children from) refl))))
expose_parts children at kind.Directory name from target (Some x) None a n f t r s = rw (name_faultless name n) (rw (expose_from_back at from f) (rw (name_faultless target t) (rw (rights_back at (codes "rights") x r) (rw (given_availability_back a) (rw (settled_back children from) refl)))))
expose_parts children at kind.Directory name from target None (Some y) a n f t r s = rw (name_faultless name n) (rw (expose_from_back at from f) (rw (name_faultless target t) (rw (subdir_faultless y s) (rw (given_availability_back a) (rw (settled_back children from) refl)))))
expose_parts children at kind.Directory name from target (Some x) (Some y) a n f t r s = rw (name_faultless name n) (rw (expose_from_back at from f) (rw (name_faultless target t) (rw (rights_back at (codes "rights") x r) (rw (subdir_faultless y s) (rw (given_availability_back a) (rw (settled_back children from) refl))))))

-- What is written for an expose that an item can be read as is read as that expose.
pub expose_read_back : (children : List Child) (at : ItemPlace) (g : Give) → IsExpose g → expose_at children at (expose_data g) ≡ Ok (g ∷ [])
expose_read_back children at g h =
    subst (λ d. expose_at children at (expose_data (record g { dependency = d })) ≡ Ok (record g { dependency = d } ∷ [])) (sym h.dependency)
    (expose_parts children at g.kind g.source_name g.from g.target_name g.rights g.subdir g.availability h.give.source_name h.give.from h.give.target_name h.give.rights h.give.subdir)
