-- The text of a declaration that can be read back is UTF-8.
use Rattle.std.proofs.Common.{◌≡◌, ℕ, ◌+◌, ◌<◌, List, [], ◌∷◌, ◌++◌, length, codes, map, filter, Bool, true, false, Option, Some, None, Less, Equal, Greater, nat_cmp, IsTrue, IsUtf8, All, Ok, Err, refl, sym, ap, subst, ◌∙◌, arith}
use Rattle.std.specs.Prelude.{IfSome}
use Rattle.std.specs.Cmp.Lexicographic.{slice_cmp}
use Rattle.std.specs.Ordering.{match_ordering}
use Rattle.std.proofs.lemmas.Str.{IsUtf8-append, IsUtf8-nil}
use Rattle.std.proofs.lemmas.List.Elements.{All-cons, All-tail}
use Rattle.json.specs.Print.{quoted}
use Rattle.json.proofs.Printed.Utf8.{IsUtf8-quoted, IsUtf8-are_ascii}
use Rattle.serde_json.specs.Data.{Data, null, boolean, number, string, array, object, Items, no_items, item, Members, no_members, member, put}
use Rattle.serde_json.specs.Written.{compact_text, items_text, members_text, comma_if}
use Rattle.serde_json.specs.View.{items_of}
use Rattle.cm_names.specs.declared.availability.Availability.{Availability}
use Rattle.cm_names.specs.declared.availability.Availability.TheVariants as availability
use Rattle.cm_names.specs.declared.dependency.Dependency.{Dependency}
use Rattle.cm_names.specs.declared.dependency.Dependency.TheVariants as dependency
use Rattle.cm_names.specs.Availability.{availability_word, dependency_word}
use Rattle.cm_names.specs.Name.{IsName}
use Rattle.cm_names.specs.Path.{is_path}
use Rattle.cm_names.specs.Rights.{RightSet, words_of, word_of, has, all_rights}
use Rattle.cm_names.specs.declared.rights.Right.{Right}
use Rattle.cm_decl.specs.declared.kind.Kind.{Kind}
use Rattle.cm_decl.specs.declared.kind.Kind.TheVariants as kind
use Rattle.cm_decl.specs.declared.origin.Origin.{Origin}
use Rattle.cm_decl.specs.declared.origin.Origin.TheVariants as origin
use Rattle.cm_decl.specs.declared.rows.Child.{Child}
use Rattle.cm_decl.specs.declared.rows.Collection.{Collection}
use Rattle.cm_decl.specs.declared.rows.Capability.{Capability}
use Rattle.cm_decl.specs.declared.rows.Durability.{Durability}
use Rattle.cm_decl.specs.declared.rows.Durability.TheVariants as durability
use Rattle.cm_decl.specs.declared.rows.Usage.{Usage}
use Rattle.cm_decl.specs.declared.rows.Give.{Give}
use Rattle.cm_decl.specs.declared.rows.Offer.{Offer}
use Rattle.cm_decl.specs.declared.environment.Registration.{Registration}
use Rattle.cm_decl.specs.declared.environment.Environment.{Environment}
use Rattle.cm_decl.specs.declared.environment.DebugUse.{DebugUse}
use Rattle.cm_decl.specs.declared.storage.Storage.{Storage}
use Rattle.cm_decl.specs.declared.storage.StorageUse.{StorageUse}
use Rattle.cm_decl.specs.declared.storage.StorageOffer.{StorageOffer}
use Rattle.cm_decl.specs.declared.decl.Decl.{Decl}
use Rattle.cm_decl.specs.Words.{kind_word}
use Rattle.cm_write.specs.Writing.{Pairs, with_pairs, object_of, list_of, startup_word, offers_word, durability_word, reference, origin_text, storage_id_word, extends_word, rights_pair, subdir_pair, environment_pair, environments_pair, program_pair, runner_pairs}
use Rattle.cm_write.specs.Writing.{child_pairs, collection_pairs, capability_pairs, use_pairs, give_pairs, offer_pairs, storage_pairs, debug_use_pairs, storage_use_pairs, storage_offer_pairs, registration_pairs, environment_pairs, decl_pairs}
use Rattle.cm_write.specs.Writing.{child_data, collection_data, capability_data, use_data, offer_data, expose_data, storage_data, debug_use_data, storage_use_data, storage_offer_data, registration_data, environment_data, capability_items, use_items, offer_items, decl_data, decl_text}
use Rattle.cm_read.specs.Readable as readable
use Rattle.cm_read.specs.Readable.{IsReadable, ForSomeOf, MayHave, MustHave, IsSubDir, IsOriginRow, IsStaticSource, IsStorageSource}
use Rattle.cm_read.specs.Manifest.{decl_of_json}
use Rattle.cm_read.specs.ReadingInside.{FailsReading}
use Rattle.cm_read.specs.declared.fault.ReadFault.{ReadFault}
use Rattle.cm_read.specs.declared.fault.ReadFault.TheVariants as read_fault
use Rattle.cm_read.proofs.lemmas.back.TextBack.{texts_are_read_back_lem}
use Rattle.cm_reply.specs.Reading.{decl_fault}
use Rattle.cm_reply.specs.declared.entry_words.EntryFault.{EntryFault}
use Rattle.cm_reply.specs.declared.entry_words.EntryFault.TheVariants as entry_fault
use Rattle.cm_reply.proofs.lemmas.back.Low.{Low, low_utf8, low_by, low_both, name_low, url_low, path_low, subdir_low, child_low, right_low}

-- ---- values whose strings are ASCII

abbrev mutual
  -- All strings in the data are UTF-8.
  AreTexts : Data → Type 0
  AreTexts null = ⊥
  AreTexts (boolean b) = ⊥
  AreTexts (number n) = ⊥
  AreTexts (string s) = Low s
  AreTexts (array ds) = ItemsAre ds
  AreTexts (object ms) = MembersAre ms

  -- All strings in the items of a list are UTF-8.
  ItemsAre : Items → Type 0
  ItemsAre no_items = Unit {0}
  ItemsAre (item d ds) = AreTexts d × ItemsAre ds

  -- All keys and strings in the members of an object are UTF-8.
  MembersAre : Members → Type 0
  MembersAre no_members = Unit {0}
  MembersAre (member k d ms) = Low k × (AreTexts d × MembersAre ms)

-- The comma before an item, where there is one, is UTF-8.
comma_utf8 : (later : Bool) → IsUtf8 (comma_if later)
comma_utf8 true = IsUtf8-are_ascii (comma_if true) refl
comma_utf8 false = IsUtf8-are_ascii (comma_if false) refl

mutual
  -- The compact text of data whose strings are UTF-8 is UTF-8.
  text_utf8 : (d : Data) → AreTexts d → IsUtf8 (compact_text d)
  text_utf8 null h = absurd h
  text_utf8 (boolean b) h = absurd h
  text_utf8 (number n) h = absurd h
  text_utf8 (string s) h = IsUtf8-quoted s (low_utf8 s h)
  text_utf8 (array ds) h = IsUtf8-append (91 ∷ []) (items_text false ds) (IsUtf8-are_ascii (91 ∷ []) refl) (items_utf8 false ds h)
  text_utf8 (object ms) h = IsUtf8-append (123 ∷ []) (members_text false ms) (IsUtf8-are_ascii (123 ∷ []) refl) (members_utf8 false ms h)

  -- The text of items whose strings are UTF-8 is UTF-8.
  items_utf8 : (later : Bool) (ds : Items) → ItemsAre ds → IsUtf8 (items_text later ds)
  items_utf8 later no_items h = IsUtf8-are_ascii (93 ∷ []) refl
  items_utf8 later (item d ds) h =
      IsUtf8-append (comma_if later) _ (comma_utf8 later) (IsUtf8-append (compact_text d) (items_text true ds) (text_utf8 d h.0) (items_utf8 true ds h.1))

  -- The text of members whose keys and strings are UTF-8 is UTF-8.
  members_utf8 : (later : Bool) (ms : Members) → MembersAre ms → IsUtf8 (members_text later ms)
  members_utf8 later no_members h = IsUtf8-are_ascii (125 ∷ []) refl
  members_utf8 later (member k d ms) h =
      let value : IsUtf8 (compact_text d ++ members_text true ms) = IsUtf8-append (compact_text d) (members_text true ms) (text_utf8 d h.1.0) (members_utf8 true ms h.1.1) in
      let colon : IsUtf8 (58 ∷ (compact_text d ++ members_text true ms)) = IsUtf8-append (58 ∷ []) _ (IsUtf8-are_ascii (58 ∷ []) refl) value in
      IsUtf8-append (comma_if later) _ (comma_utf8 later) (IsUtf8-append (quoted k) _ (IsUtf8-quoted k (low_utf8 k h.0)) colon)

-- ---- objects and lists

-- The pairs have keys of ASCII, and data whose strings are UTF-8.
abbrev PairsAre : Pairs → Type 0
PairsAre [] = Unit {0}
PairsAre (p ∷ ps) = (Low p.0 × AreTexts p.1) × PairsAre ps

-- Members stay of UTF-8 when data of it is put among them with a key of ASCII.
put_texts : (k : List ℕ) (d : Data) (ms : Members) → Low k → AreTexts d → MembersAre ms → MembersAre (put k d ms)
put_texts k d no_members low is rest = (low, (is, tt))
put_texts k d (member l e ms) low is rest =
    elim (slice_cmp nat_cmp k l) as (λ o. MembersAre (match_ordering o (member k d (member l e ms)) (member l d ms) (member l e (put k d ms)))) [
      | Less ↦ (low, (is, rest))
      | Equal ↦ (rest.0, (is, rest.1.1))
      | Greater ↦ (rest.0, (rest.1.0, put_texts k d ms low is rest.1.1))
    ]

-- Members stay of UTF-8 when pairs of it are put among them.
with_texts : (ms : Members) (ps : Pairs) → MembersAre ms → PairsAre ps → MembersAre (with_pairs ms ps)
with_texts ms [] rest h = rest
with_texts ms (p ∷ ps) rest h = with_texts (put p.0 p.1 ms) ps (put_texts p.0 p.1 ms h.0.0 h.0.1 rest) h.1

-- An object made of pairs of UTF-8 has only strings of UTF-8.
object_texts : (ps : Pairs) → PairsAre ps → AreTexts (object_of ps)
object_texts ps h = with_texts no_members ps tt h

-- Two lists of pairs of UTF-8 are one such list together.
both_pairs : (ps qs : Pairs) → PairsAre ps → PairsAre qs → PairsAre (ps ++ qs)
both_pairs [] qs h k = k
both_pairs (p ∷ ps) qs h k = (h.0, both_pairs ps qs h.1 k)

-- rows of one kind, and what stands behind them
items_before : {A : Type 0} (P : A → Type 0) (write : A → Data) (xs : List A) (rest : List Data) → ((x : A) → P x → AreTexts (write x)) → All P xs → ItemsAre (items_of rest) → ItemsAre (items_of (map write xs ++ rest))
items_before P write [] rest each all behind = behind
items_before P write (x ∷ xs) rest each all behind =
    (each x (all 0 x (omega arith)), items_before P write xs rest each (All-tail P x xs all) behind)

-- Items written of a list are of UTF-8, where each one's data is.
list_texts : {A : Type 0} (P : A → Type 0) (write : A → Data) (xs : List A) → ((x : A) → P x → AreTexts (write x)) → All P xs → ItemsAre (items_of (map write xs))
list_texts P write [] each all = tt
list_texts P write (x ∷ xs) each all = (each x (all 0 x (omega arith)), list_texts P write xs each (All-tail P x xs all))

-- ---- words

-- The word for `startup` is of ASCII.
startup_low : (b : Bool) → Low (startup_word b)
startup_low true = low_by (startup_word true) refl
startup_low false = low_by (startup_word false) refl

-- The word for `allowed_offers` is of ASCII.
offers_low : (b : Bool) → Low (offers_word b)
offers_low true = low_by (offers_word true) refl
offers_low false = low_by (offers_word false) refl

-- The word for a durability is of ASCII.
durability_low : (d : Durability) → Low (durability_word d)
durability_low durability.Transient = low_by (durability_word durability.Transient) refl
durability_low durability.SingleRun = low_by (durability_word durability.SingleRun) refl

-- The word for a kind is of ASCII.
kind_low : (k : Kind) → Low (kind_word k)
kind_low kind.Protocol = low_by (kind_word kind.Protocol) refl
kind_low kind.Directory = low_by (kind_word kind.Directory) refl

-- The word for a dependency is of ASCII.
dependency_low : (d : Dependency) → Low (dependency_word d)
dependency_low dependency.Strong = low_by (dependency_word dependency.Strong) refl
dependency_low dependency.Weak = low_by (dependency_word dependency.Weak) refl

-- The word for an availability is of ASCII.
availability_low : (a : Availability) → Low (availability_word a)
availability_low availability.Required = low_by (availability_word availability.Required) refl
availability_low availability.Optional = low_by (availability_word availability.Optional) refl
availability_low availability.Transitional = low_by (availability_word availability.Transitional) refl
availability_low availability.SameAsTarget = low_by (availability_word availability.SameAsTarget) refl

-- The word for `storage_id` is of ASCII.
storage_id_low : (b : Bool) → Low (storage_id_word b)
storage_id_low true = low_by (storage_id_word true) refl
storage_id_low false = low_by (storage_id_word false) refl

-- The word for `extends` is of ASCII.
extends_low : (b : Bool) → Low (extends_word b)
extends_low true = low_by (extends_word true) refl
extends_low false = low_by (extends_word false) refl

-- A reference to a text of ASCII is of ASCII.
reference_low : (t : List ℕ) → Low t → Low (reference t)
reference_low t h = All-cons (λ b. b < 128) 35 t (omega arith) h

-- Where there is no collection, what there is of it is a name.
child_of_none : (coll : Option (List ℕ)) → coll ≡ None → IfSome coll IsName
child_of_none None e = tt
child_of_none (Some c) e = absurd (cc e)

-- The text of an origin that a declaration's row may have is of ASCII.
origin_low : (parent void : Bool) (o : Origin) → IsOriginRow parent void o → Low (origin_text o)
origin_low parent void origin.Parent h = low_by (origin_text origin.Parent) refl
origin_low parent void origin.Own h = low_by (origin_text origin.Own) refl
origin_low parent void origin.Framework h = low_by (origin_text origin.Framework) refl
origin_low parent void origin.Void h = low_by (origin_text origin.Void) refl
origin_low parent void (origin.Child c) h = reference_low _ (child_low c (h.1, child_of_none c.coll h.0))

-- The text of an origin that a static source may have is of ASCII.
static_low : (o : Origin) → IsStaticSource o → Low (origin_text o)
static_low origin.Parent h = low_by (origin_text origin.Parent) refl
static_low origin.Own h = low_by (origin_text origin.Own) refl
static_low origin.Framework h = absurd h
static_low origin.Void h = absurd h
static_low (origin.Child c) h = reference_low _ (child_low c (h.1, child_of_none c.coll h.0))

-- The text of an origin that a storage's source may have is of ASCII.
storage_source_low : (o : Origin) → IsStorageSource o → Low (origin_text o)
storage_source_low origin.Parent h = low_by (origin_text origin.Parent) refl
storage_source_low origin.Own h = low_by (origin_text origin.Own) refl
storage_source_low origin.Void h = low_by (origin_text origin.Void) refl
storage_source_low origin.Framework h = absurd h
storage_source_low (origin.Child c) h = absurd h

-- ---- fields

-- The items that are the words of rights have only strings of UTF-8.
rights_words : (rs : List Right) → ItemsAre (items_of (map string (map word_of rs)))
rights_words [] = tt
rights_words (r ∷ rs) = (right_low r, rights_words rs)

-- The pair for rights, where there is one, is of UTF-8.
rights_texts : (rights : Option RightSet) → PairsAre (rights_pair rights)
rights_texts None = tt
rights_texts (Some rights) = ((low_by (codes "rights") refl, rights_words (filter (has rights) all_rights)), tt)

-- The pair for a subdirectory, where there is one and it is a proper one, is of UTF-8.
subdir_texts : (subdir : Option (List ℕ)) → ForSomeOf subdir IsSubDir → PairsAre (subdir_pair subdir)
subdir_texts None h = tt
subdir_texts (Some subdir) h = ((low_by (codes "subdir") refl, subdir_low subdir h), tt)

-- The pair for an environment, where there is one and it is a name, is of UTF-8.
environment_texts : (environment : Option (List ℕ)) → ForSomeOf environment IsName → PairsAre (environment_pair environment)
environment_texts None h = tt
environment_texts (Some name) h = ((low_by (codes "environment") refl, reference_low name (name_low name h)), tt)

-- Where a kind may have a subdirectory only if it is proper, one that it has is proper.
may_subdir : (k : Kind) (subdir : Option (List ℕ)) → MayHave k subdir IsSubDir → ForSomeOf subdir IsSubDir
may_subdir kind.Protocol None h = tt
may_subdir kind.Protocol (Some t) h = absurd (cc h)
may_subdir kind.Directory subdir h = h

-- The pairs for rights and subdirectory, where the kind may have them, are of UTF-8.
limits_texts : (k : Kind) (rights : Option RightSet) (subdir : Option (List ℕ)) → MayHave k subdir IsSubDir → PairsAre (rights_pair rights ++ subdir_pair subdir)
limits_texts k rights subdir h = both_pairs (rights_pair rights) (subdir_pair subdir) (rights_texts rights) (subdir_texts subdir (may_subdir k subdir h))

-- ---- rows

-- The data of a child's row that can be read back has only strings of UTF-8.
child_texts : (c : Child) → readable.IsChildRow c → AreTexts (child_data c)
child_texts c h =
    object_texts (child_pairs c) ((low_by (codes "name") refl, name_low c.name h.name), ((low_by (codes "url") refl, url_low c.url h.url), ((low_by (codes "startup") refl, startup_low c.eager), environment_texts c.environment h.environment)))

-- The data of a collection that can be read back has only strings of UTF-8.
collection_texts : (c : Collection) → readable.IsCollection c → AreTexts (collection_data c)
collection_texts c h =
    object_texts (collection_pairs c) ((low_by (codes "name") refl, name_low c.name h.name), ((low_by (codes "durability") refl, durability_low c.durability), ((low_by (codes "allowed_offers") refl, offers_low c.dynamic_offers), environment_texts c.environment h.environment)))

-- The data of a capability that can be read back has only strings of UTF-8.
capability_texts : (c : Capability) → readable.IsCapability c → AreTexts (capability_data c)
capability_texts c h =
    object_texts (capability_pairs c) ((kind_low c.kind, name_low c.name h.name), ((low_by (codes "path") refl, path_low c.path h.path), rights_texts c.rights))

-- The data of a storage that can be read back has only strings of UTF-8.
storage_texts : (s : Storage) → readable.IsStorage s → AreTexts (storage_data s)
storage_texts s h =
    object_texts (storage_pairs s) ((low_by (codes "storage") refl, name_low s.name h.name), ((low_by (codes "from") refl, static_low s.from h.from), ((low_by (codes "backing_dir") refl, name_low s.backing h.backing), ((low_by (codes "storage_id") refl, storage_id_low s.by_moniker), subdir_texts s.subdir h.subdir))))

-- The data of a use that can be read back has only strings of UTF-8.
use_texts : (u : Usage) → readable.IsUsage u → AreTexts (use_data u)
use_texts u h =
    object_texts (use_pairs u) ((kind_low u.kind, name_low u.name h.name), ((low_by (codes "from") refl, origin_low true false u.from h.from), ((low_by (codes "path") refl, path_low u.path h.path), ((low_by (codes "dependency") refl, dependency_low u.dependency), ((low_by (codes "availability") refl, availability_low u.availability), limits_texts u.kind u.rights u.subdir h.subdir)))))

-- The data of a debug use that can be read back has only strings of UTF-8.
debug_use_texts : (u : DebugUse) → readable.IsDebugUse u → AreTexts (debug_use_data u)
debug_use_texts u h = object_texts (debug_use_pairs u) ((low_by (codes "protocol") refl, name_low u.name h.name), ((low_by (codes "from") refl, low_by (codes "debug") refl), ((low_by (codes "path") refl, path_low u.path h.path), tt)))

-- The data of a storage's use that can be read back has only strings of UTF-8.
storage_use_texts : (u : StorageUse) → readable.IsStorageUse u → AreTexts (storage_use_data u)
storage_use_texts u h = object_texts (storage_use_pairs u) ((low_by (codes "storage") refl, name_low u.name h.name), ((low_by (codes "from") refl, low_by (codes "parent") refl), ((low_by (codes "path") refl, path_low u.path h.path), tt)))

-- The pairs of an offered or exposed capability that can be read back are of UTF-8.
give_texts : (parent : Bool) (g : Give) → readable.IsGiveRow parent g → PairsAre (give_pairs g)
give_texts parent g h =
    ((kind_low g.kind, name_low g.source_name h.source_name), ((low_by (codes "from") refl, origin_low parent true g.from h.from), ((low_by (codes "as") refl, name_low g.target_name h.target_name), ((low_by (codes "availability") refl, availability_low g.availability), limits_texts g.kind g.rights g.subdir h.subdir))))

-- The data of an offer that can be read back has only strings of UTF-8.
offer_texts : (o : Offer) → readable.IsOffer o → AreTexts (offer_data o)
offer_texts o h =
    object_texts (offer_pairs o) ((low_by (codes "to") refl, reference_low o.to (name_low o.to h.to)), ((low_by (codes "dependency") refl, dependency_low o.give.dependency), give_texts true o.give h.give))

-- The data of a storage's offer that can be read back has only strings of UTF-8.
storage_offer_texts : (o : StorageOffer) → readable.IsStorageOffer o → AreTexts (storage_offer_data o)
storage_offer_texts o h =
    object_texts (storage_offer_pairs o) ((low_by (codes "storage") refl, name_low o.source_name h.source_name), ((low_by (codes "from") refl, storage_source_low o.from h.from), ((low_by (codes "to") refl, reference_low o.to (name_low o.to h.to)), ((low_by (codes "as") refl, name_low o.target_name h.target_name), tt))))

-- The data of an expose that can be read back has only strings of UTF-8.
expose_texts : (g : Give) → readable.IsExpose g → AreTexts (expose_data g)
expose_texts g h = object_texts (give_pairs g) (give_texts false g h.give)

-- The data of a registration that can be read back, under a key of ASCII, is of UTF-8.
registration_texts : (key : List ℕ) → Low key → (r : Registration) → readable.IsRegistration r → AreTexts (registration_data key r)
registration_texts key low r h =
    object_texts (registration_pairs key r) ((low, name_low r.name h.name), ((low_by (codes "from") refl, static_low r.from h.from), ((low_by (codes "as") refl, name_low r.target h.target), tt)))

-- The data of an environment that can be read back has only strings of UTF-8.
environment_row_texts : (e : Environment) → readable.IsEnvironment e → AreTexts (environment_data e)
environment_row_texts e h =
    object_texts (environment_pairs e) ((low_by (codes "name") refl, name_low e.name h.name), ((low_by (codes "extends") refl, extends_low e.extends), ((low_by (codes "runners") refl, list_texts readable.IsRegistration (registration_data (codes "runner")) e.runners (registration_texts (codes "runner") (low_by (codes "runner") refl)) h.runners), ((low_by (codes "debug") refl, list_texts readable.IsRegistration (registration_data (codes "protocol")) e.debug (registration_texts (codes "protocol") (low_by (codes "protocol") refl)) h.debug), tt))))

-- The pair for a program, where its runner is a name or there is none, is of UTF-8.
program_texts : (runner : Option (List ℕ)) → ForSomeOf runner IsName → PairsAre (program_pair runner)
program_texts None h = tt
program_texts (Some runner) h = ((low_by (codes "program") refl, object_texts (runner_pairs runner) ((low_by (codes "runner") refl, name_low runner h), tt)), tt)

-- The pairs for environments that can be read back are of UTF-8.
environments_texts : (es : List Environment) → All readable.IsEnvironment es → PairsAre (environments_pair es)
environments_texts [] h = tt
environments_texts (e ∷ es) h = ((low_by (codes "environments") refl, list_texts readable.IsEnvironment environment_data (e ∷ es) environment_row_texts h), tt)

-- ---- declarations

-- The items for the capabilities of a declaration that can be read back are of UTF-8.
capabilities_texts : (d : Decl) → IsReadable d → ItemsAre (items_of (capability_items d))
capabilities_texts d h =
    items_before readable.IsCapability capability_data d.capabilities (map storage_data d.storages) capability_texts h.capabilities.each
    (list_texts readable.IsStorage storage_data d.storages storage_texts h.storages)

-- The items for the uses of a declaration that can be read back are of UTF-8.
uses_texts : (d : Decl) → IsReadable d → ItemsAre (items_of (use_items d))
uses_texts d h =
    items_before readable.IsUsage use_data d.uses (map debug_use_data d.debug_uses ++ map storage_use_data d.storage_uses) use_texts h.uses.each
    (items_before readable.IsDebugUse debug_use_data d.debug_uses (map storage_use_data d.storage_uses) debug_use_texts h.debug_uses
    (list_texts readable.IsStorageUse storage_use_data d.storage_uses storage_use_texts h.storage_uses))

-- The items for the offers of a declaration that can be read back are of UTF-8.
offers_texts : (d : Decl) → IsReadable d → ItemsAre (items_of (offer_items d))
offers_texts d h =
    items_before readable.IsOffer offer_data d.offers (map storage_offer_data d.storage_offers) offer_texts h.offers.each
    (list_texts readable.IsStorageOffer storage_offer_data d.storage_offers storage_offer_texts h.storage_offers)

-- The data of a declaration that can be read back has only strings of UTF-8.
decl_texts : (d : Decl) → IsReadable d → AreTexts (decl_data d)
decl_texts d h =
    object_texts (decl_pairs d) ((low_by (codes "children") refl, list_texts readable.IsChildRow child_data d.children child_texts h.children.each), ((low_by (codes "collections") refl, list_texts readable.IsCollection collection_data d.collections collection_texts h.collections.each), ((low_by (codes "capabilities") refl, capabilities_texts d h), ((low_by (codes "use") refl, uses_texts d h), ((low_by (codes "offer") refl, offers_texts d h), ((low_by (codes "expose") refl, list_texts readable.IsExpose expose_data d.exposes expose_texts h.exposes.each), both_pairs (environments_pair d.environments) (program_pair d.runner) (environments_texts d.environments h.environments.each) (program_texts d.runner h.runner)))))))

-- The text of a readable declaration is UTF-8.
pub decl_utf8 : (d : Decl) → IsReadable d → IsUtf8 (decl_text d)
decl_utf8 d h = text_utf8 (decl_data d) (decl_texts d h)

-- ---- one declaration for a text

-- A text that is read as a declaration, and is the text of a readable one, is read as that one.
pub decl_one : (t : List ℕ) (d e : Decl) → decl_of_json t ≡ Ok d → IsReadable e → t ≡ decl_text e → d ≡ e
decl_one t d e read is same = let both : Ok d ≡ Ok e = sym read ∙ ap decl_of_json same ∙ texts_are_read_back_lem e is in cc both

-- The reader of an entry's declaration has no fault but lack of memory, where the text is one of its own.
pub decl_faults : (t : List ℕ) (f : ReadFault) (g : EntryFault) (e : Decl) → FailsReading f (decl_of_json t) → g ≡ decl_fault f → IsReadable e → t ≡ decl_text e → g ≡ entry_fault.Memory
decl_faults t (read_fault.Bad n s i field) g e fails same is text =
    let both : Err (read_fault.Bad n s i field) ≡ Ok e = sym fails ∙ ap decl_of_json text ∙ texts_are_read_back_lem e is in absurd (cc both)
decl_faults t read_fault.Memory g e fails same is text = same
