-- What the items of each section give.
use Rattle.std.proofs.Common.{◌≡◌, ℕ, List, codes, Bool, true, false, Option, Some, None, Ok, IsTrue, refl, sym, ap, ◌∙◌, true≢false, Ordering, Less, Equal, Greater, if◌then◌else◌}
use Rattle.std.specs.Prelude.{All, IfSome, map, unwrap_or}
use Rattle.std.specs.Ordering.{nat_cmp, match_ordering, is_eq}
use Rattle.std.specs.Cmp.Lexicographic.{slice_cmp}
use Rattle.std.specs.Option.{is_some}
use Rattle.std.specs.List.{flat_map, list_any}
use Rattle.std.specs.Str.{bytes_eq}
use Rattle.std.proofs.lemmas.Map.Text.{is_eq-slice_cmp}
use Rattle.std.proofs.lemmas.Slice.Eq.{bytes_eq-Decides}
use Rattle.serde_json.specs.Data.{Data, null, boolean, number, string, array, object, Members, no_members, member}
use Rattle.serde_json.specs.Find.{get, get_member}
use Rattle.cm_names.specs.Name.{IsName}
use Rattle.cm_names.specs.Path.{is_path}
use Rattle.cm_names.specs.declared.dependency.Dependency.TheVariants.{Strong}
use Rattle.cm_names.proofs.lemmas.texts.Path.{service_is_path}
use Rattle.cm_decl.specs.Words.{kind_word}
use Rattle.cm_decl.specs.declared.kind.Kind.{Kind}
use Rattle.cm_decl.specs.declared.kind.Kind.TheVariants as kind
use Rattle.cm_read.specs.declared.fault.ItemPlace.{ItemPlace}
use Rattle.cm_read.specs.declared.rows.Terms.{Terms}
use Rattle.cm_read.specs.Reading.{ReadResult}
use Rattle.cm_read.specs.Fields.{needed_at, if_there, object_at, no_unknown, known_at, unknown_in, subdir_in_at, subdir_at, rights_in_at}
use Rattle.cm_decl.specs.declared.rows.Child.{Child}
use Rattle.cm_decl.specs.declared.origin.Origin.{Origin}
use Rattle.cm_names.specs.declared.dependency.Dependency.{Dependency}
use Rattle.cm_names.specs.declared.availability.Availability.{Availability}
use Rattle.cm_names.specs.declared.availability.Availability.TheVariants.{SameAsTarget}
use Rattle.std.specs.Prelude.{◌≢◌}
use Rattle.cm_facts.proofs.Lists.{All_one, All_map}
use Rattle.cm_read.specs.declared.rows.Sort.{Sort}
use Rattle.cm_read.specs.declared.rows.Sort.TheVariants as sort
use Rattle.cm_read.specs.declared.rows.UseSource.{UseSource}
use Rattle.cm_read.specs.declared.rows.UseSource.TheVariants as source
use Rattle.cm_read.specs.declared.rows.CapabilityRow.{CapabilityRow}
use Rattle.cm_read.specs.declared.rows.CapabilityRow.TheVariants as capability_row
use Rattle.cm_read.specs.declared.rows.UseRow.{UseRow}
use Rattle.cm_read.specs.declared.rows.UseRow.TheVariants as use_row
use Rattle.cm_read.specs.declared.rows.OfferRow.{OfferRow}
use Rattle.cm_read.specs.declared.rows.OfferRow.TheVariants as offered
use Rattle.cm_read.specs.Words.{startup_at, durability_at, allowed_offers_at, dependency_at}
use Rattle.cm_read.specs.Words.{given_availability_at, source_unknown_at, settled, expose_to_at}
use Rattle.cm_read.specs.Words.{storage_use_from_at, storage_id_at}
use Rattle.cm_read.specs.Items.{child_fields, child_at, collection_fields, collection_at, kind_at, sort_at}
use Rattle.cm_read.specs.Items.{directory_name_at, item_names_at, storage_name_at, backing_at}
use Rattle.cm_read.specs.Items.{storage_names_at, protocol_path_in_at}
use Rattle.cm_read.specs.Items.{protocol_path_at, path_of, capability_fields}
use Rattle.cm_read.specs.Items.{protocol_capability_row, protocol_capability_at, directory_capability_at}
use Rattle.cm_read.specs.Items.{storage_at, capability_of_sort, capability_at, use_fields}
use Rattle.cm_read.specs.Items.{protocol_use_row, protocol_use_at, directory_use_at, storage_use_at}
use Rattle.cm_read.specs.Items.{use_of_sort, use_at, as_in_at, as_at, given_rights_at, give_row, offer_fields}
use Rattle.cm_read.specs.Items.{targets_at, offer_row, offer_rows, routed_offer_at, storage_offer}
use Rattle.cm_read.specs.Items.{storage_offer_rows, storage_offer_at, offer_of_sort, offer_at, expose_fields}
use Rattle.cm_read.specs.Items.{expose_at, capability_in, storage_in, usage_in, debug_use_in, storage_use_in}
use Rattle.cm_read.specs.Items.{offer_in, storage_offer_in, child_row_at, collection_row_at}
use Rattle.cm_read.specs.Items.{protocols_used_at, offered_at, storages_offered_at, exposed_at}
use Rattle.cm_read.specs.Readable.{AreRights, IsSubDir, IsOriginRow, IsStorageSource, ForSomeOf}
use Rattle.cm_read.specs.Readable.{MayHave, IsChildRow, IsCollection, IsCapability, IsUsage, IsGiveRow, IsOffer}
use Rattle.cm_read.specs.Readable.{IsExpose, IsDebugUse, IsStorage, IsStorageUse, IsStorageOffer}
use Rattle.cm_read.proofs.lemmas.reading.Read.{Reads, gives, any, exact, next, given, alone_reads}
use Rattle.cm_read.proofs.lemmas.reading.Read.{all_in_turn}
use Rattle.cm_read.proofs.lemmas.reading.FieldsRead.{name_in_reads, name_reads, url_reads, IsPath, path_in_reads, path_reads}
use Rattle.cm_read.proofs.lemmas.reading.FieldsRead.{subdir_in_reads, subdir_reads, names_reads, references_reads}
use Rattle.cm_read.proofs.lemmas.reading.FieldsRead.{rights_in_reads, rights_reads, use_from_reads, offer_from_reads}
use Rattle.cm_read.proofs.lemmas.reading.FieldsRead.{expose_from_reads, IsUseSource, use_source_reads, static_from_reads}
use Rattle.cm_read.proofs.lemmas.reading.FieldsRead.{storage_from_reads, settled_is, availability_reads, environment_reads}

-- ---- children and collections

-- Each child that an item of `children` gives is one that such an item can be read as.
pub child_reads : (at : ItemPlace) (d : Data) → Reads (All IsChildRow) (child_at at d)
unfolding child_at child_row_at
child_reads at d =
    next (any (object_at at d)) (λ members _.
    next (any (known_at at child_fields members)) (λ known _.
    next (name_reads at (codes "name") d) (λ name n.
    next (url_reads at (codes "url") d) (λ url u.
    next (any (startup_at at d)) (λ eager _.
    next (environment_reads at d) (λ environment e.
    gives (All_one IsChildRow (record { name = name; url = url; eager = eager; environment = environment })
    (record { name = n; url = u; environment = e }))))))))

-- Each collection that an item of `collections` gives is one that such an item can be read as.
pub collection_reads : (at : ItemPlace) (d : Data) → Reads (All IsCollection) (collection_at at d)
unfolding collection_at collection_row_at
collection_reads at d =
    next (any (object_at at d)) (λ members _.
    next (any (known_at at collection_fields members)) (λ known _.
    next (name_reads at (codes "name") d) (λ name n.
    next (any (durability_at at d)) (λ durability _.
    next (any (allowed_offers_at at d)) (λ dynamic_offers _.
    next (environment_reads at d) (λ environment e.
    gives (All_one IsCollection
    (record { name = name; durability = durability; dynamic_offers = dynamic_offers; environment = environment })
    (record { name = n; environment = e }))))))))

-- ---- names and paths

-- The names that an item of some kind gives are names.
pub item_names_reads : (k : Kind) (at : ItemPlace) (d : Data) → Reads (All IsName) (item_names_at k at d)
unfolding item_names_at
item_names_reads k at d = next (any (needed_at at (kind_word k) d)) (λ value _. names_reads at (kind_word k) value)

-- The name of a storage is read as a name.
storage_name_reads : (at : ItemPlace) (d : Data) → Reads IsName (storage_name_at at d)
unfolding storage_name_at
storage_name_reads at d = name_reads at (codes "storage") d

-- The backing of a storage is read as a name.
backing_reads : (at : ItemPlace) (d : Data) → Reads IsName (backing_at at d)
unfolding backing_at
backing_reads at d = name_reads at (codes "backing_dir") d

-- The names of storages are read as names.
storage_names_reads : (at : ItemPlace) (d : Data) → Reads (All IsName) (storage_names_at at d)
unfolding storage_names_at
storage_names_reads at d =
    next (any (needed_at at (codes "storage") d)) (λ value _. names_reads at (codes "storage") value)

-- The name of a directory is read as a name.
directory_name_reads : (at : ItemPlace) (d : Data) → Reads IsName (directory_name_at at d)
unfolding directory_name_at
directory_name_reads at d = name_reads at (codes "directory") d

-- The path that an item of protocols gives is read as a path.
protocol_path_in_reads : (at : ItemPlace) (names : List (List ℕ)) (d : Data) → Reads IsPath (protocol_path_in_at at names d)
unfolding protocol_path_in_at
protocol_path_in_reads at names d =
    next (path_in_reads at (codes "path") d) (λ path p. alone_reads at (codes "path") names path p)

-- The path of protocols, where one is given, is read as a path.
protocol_path_reads : (at : ItemPlace) (names : List (List ℕ)) (d : Data) → Reads (λ o. ForSomeOf o IsPath) (protocol_path_at at names d)
unfolding protocol_path_at
protocol_path_reads at names d =
    given (get (codes "path") d) (protocol_path_in_at at names) (protocol_path_in_reads at names)

-- The path given, or that of a service of the name, is a path.
path_is_path : (path : Option (List ℕ)) (name : List ℕ) → ForSomeOf path IsPath → IsName name → IsTrue (is_path (path_of path name))
path_is_path None name p n = service_is_path name n
path_is_path (Some path) name p n = p

-- ---- capabilities

-- a row of `capabilities`, of which each sort has its own fact
abbrev pub IsCapabilityRow : CapabilityRow → Type 0
IsCapabilityRow row = IfSome (capability_in row) IsCapability × IfSome (storage_in row) IsStorage

-- A protocol's name, with a path or none, makes a capability that is right.
protocol_is_row : (path : Option (List ℕ)) (name : List ℕ) → ForSomeOf path IsPath → IsName name
    → IsCapabilityRow (protocol_capability_row path name)
protocol_is_row path name p n = (record { name = n; path = path_is_path path name p n; rights = refl }, tt)

-- The item of a protocol is read as capabilities that are right.
protocol_capability_reads : (at : ItemPlace) (d : Data) → Reads (All IsCapabilityRow) (protocol_capability_at at d)
unfolding protocol_capability_at
protocol_capability_reads at d =
    next (item_names_reads kind.Protocol at d) (λ names ns.
    next (protocol_path_reads at names d) (λ path p.
    gives (All_map IsName IsCapabilityRow (protocol_capability_row path) names
    (λ name n. protocol_is_row path name p n) ns)))

-- The item of a directory is read as capabilities that are right.
directory_capability_reads : (at : ItemPlace) (d : Data) → Reads (All IsCapabilityRow) (directory_capability_at at d)
unfolding directory_capability_at
directory_capability_reads at d =
    next (directory_name_reads at d) (λ name n.
    next (path_reads at (codes "path") d) (λ path p.
    next (rights_reads at (codes "rights") d) (λ rights r.
    gives (All_one IsCapabilityRow
    (capability_row.Capability (record { kind = kind.Directory; name = name; path = path; rights = Some rights }))
    (record { name = n; path = p; rights = r }, tt)))))

-- The item of a storage is read as capabilities that are right.
storage_reads : (at : ItemPlace) (d : Data) → Reads (All IsCapabilityRow) (storage_at at d)
unfolding storage_at
storage_reads at d =
    next (storage_name_reads at d) (λ name n.
    next (static_from_reads at d) (λ from f.
    next (backing_reads at d) (λ backing b.
    next (subdir_reads at (codes "subdir") d) (λ subdir s.
    next (any (storage_id_at at d)) (λ by_moniker _.
    gives (All_one IsCapabilityRow
    (capability_row.Storage (record { name = name; from = from; backing = backing; subdir = subdir; by_moniker = by_moniker }))
    (tt, record { name = n; from = f; backing = b; subdir = s })))))))

-- An item of any sort is read as capabilities that are right.
capability_of_sort_reads : (s : Sort) (at : ItemPlace) (d : Data) → Reads (All IsCapabilityRow) (capability_of_sort s at d)
capability_of_sort_reads (sort.Routed kind.Protocol) at d = protocol_capability_reads at d
capability_of_sort_reads (sort.Routed kind.Directory) at d = directory_capability_reads at d
capability_of_sort_reads sort.Storage at d = storage_reads at d

-- Each row that an item of `capabilities` gives is one that such an item can be read as.
pub capability_reads : (at : ItemPlace) (d : Data) → Reads (All IsCapabilityRow) (capability_at at d)
unfolding capability_at
capability_reads at d =
    next (any (object_at at d)) (λ members _.
    next (any (sort_at at d)) (λ s _.
    next (any (known_at at (capability_fields s) members)) (λ known _.
    capability_of_sort_reads s at d)))

-- ---- uses

-- a row of `use`, of which each sort has its own fact
abbrev pub IsUseRow : UseRow → Type 0
IsUseRow row =
    IfSome (usage_in row) IsUsage × (IfSome (debug_use_in row) IsDebugUse × IfSome (storage_use_in row) IsStorageUse)

-- The parts of a protocol's use, where each is right, make a use that is right.
protocol_is_use : (from : UseSource) (path : Option (List ℕ)) (dependency : Dependency) (a : Availability) (name : List ℕ)
    → IsUseSource from → ForSomeOf path IsPath → a ≢ SameAsTarget → IsName name
    → IsUseRow (protocol_use_row from path dependency a name)
protocol_is_use (source.From from) path dependency a name f p s n =
    (record { name = n; from = f; path = path_is_path path name p n; rights = refl; subdir = refl; availability = s }, (tt, tt))
protocol_is_use source.Debug path dependency a name f p s n =
    (tt, (record { name = n; path = path_is_path path name p n }, tt))

-- The item of a protocol is read as uses that are right.
protocol_use_reads : (at : ItemPlace) (d : Data) → Reads (All IsUseRow) (protocol_use_at at d)
unfolding protocol_use_at protocols_used_at
protocol_use_reads at d =
    next (item_names_reads kind.Protocol at d) (λ names ns.
    next (use_source_reads at d) (λ from f.
    next (protocol_path_reads at names d) (λ path p.
    next (any (dependency_at at d)) (λ dependency _.
    next (availability_reads at d) (λ availability a.
    gives (All_map IsName IsUseRow (protocol_use_row from path dependency availability) names
    (λ name n. protocol_is_use from path dependency availability name f p a n) ns))))))

-- The item of a directory is read as uses that are right.
directory_use_reads : (at : ItemPlace) (d : Data) → Reads (All IsUseRow) (directory_use_at at d)
unfolding directory_use_at
directory_use_reads at d =
    next (directory_name_reads at d) (λ name n.
    next (use_from_reads at d) (λ from f.
    next (path_reads at (codes "path") d) (λ path p.
    next (rights_reads at (codes "rights") d) (λ rights r.
    next (subdir_reads at (codes "subdir") d) (λ subdir s.
    next (any (dependency_at at d)) (λ dependency _.
    next (availability_reads at d) (λ availability a.
    gives (All_one IsUseRow (use_row.Usage (record { kind = kind.Directory; name = name; from = from; path = path; rights = Some rights; subdir = subdir; dependency = dependency; availability = availability }))
    (record { name = n; from = f; path = p; rights = r; subdir = s; availability = a }, (tt, tt))))))))))

-- The item of a storage is read as uses that are right.
storage_use_reads : (at : ItemPlace) (d : Data) → Reads (All IsUseRow) (storage_use_at at d)
unfolding storage_use_at
storage_use_reads at d =
    next (storage_name_reads at d) (λ name n.
    next (any (storage_use_from_at at d)) (λ from _.
    next (path_reads at (codes "path") d) (λ path p.
    next (availability_reads at d) (λ availability _.
    gives (All_one IsUseRow (use_row.Storage (record { name = name; path = path })) (tt, (tt, record { name = n; path = p })))))))

-- An item of any sort is read as uses that are right.
use_of_sort_reads : (s : Sort) (at : ItemPlace) (d : Data) → Reads (All IsUseRow) (use_of_sort s at d)
use_of_sort_reads (sort.Routed kind.Protocol) at d = protocol_use_reads at d
use_of_sort_reads (sort.Routed kind.Directory) at d = directory_use_reads at d
use_of_sort_reads sort.Storage at d = storage_use_reads at d

-- Each row that an item of `use` gives is one that such an item can be read as.
pub use_reads : (at : ItemPlace) (d : Data) → Reads (All IsUseRow) (use_at at d)
unfolding use_at
use_reads at d =
    next (any (object_at at d)) (λ members _.
    next (any (sort_at at d)) (λ s _.
    next (any (known_at at (use_fields s) members)) (λ known _.
    use_of_sort_reads s at d)))

-- ---- fields that aren't known are not there

-- where the keys are equal, a known one would be an unknown one
same_key : (known : List (List ℕ)) (k l : List ℕ) → bytes_eq k l ≡ true → list_any (λ w. bytes_eq w l) known ≡ true → list_any (λ w. bytes_eq w k) known ≡ false → ⊥
same_key known k l same here there =
    true≢false (sym here ∙ ap (λ t. list_any (λ w. bytes_eq w t) known) (sym ((bytes_eq-Decides k l).0 same)) ∙ there)

-- A key that isn't known is that of no member, where no member is unknown.
no_member : (known : List (List ℕ)) (k : List ℕ) (ms : Members) → list_any (λ w. bytes_eq w k) known ≡ false → unknown_in known ms ≡ None → get_member k ms ≡ None
no_member known k no_members out e = refl
no_member known k (member l d ms) out e = by (list_any (λ w. bytes_eq w l) known) refl e (λ f. no_member known k ms out f)
  where
    compared : (o : Ordering) → slice_cmp nat_cmp k l ≡ o → list_any (λ w. bytes_eq w l) known ≡ true → get_member k ms ≡ None → match_ordering o (get_member k ms) (Some d) (get_member k ms) ≡ None
    compared Less c here rest = rest
    compared Equal c here rest = absurd (same_key known k l (sym (is_eq-slice_cmp k l) ∙ ap is_eq c) here out)
    compared Greater c here rest = rest

    by : (b : Bool) → list_any (λ w. bytes_eq w l) known ≡ b → (if b then unknown_in known ms else Some l) ≡ None → (unknown_in known ms ≡ None → get_member k ms ≡ None) → get_member k (member l d ms) ≡ None
    by true here f others = compared (slice_cmp nat_cmp k l) refl here (others f)
    by false here f others = absurd (true≢false (ap is_some f))

-- Where no fault of an unknown key is told, no key is unknown.
none_unknown : (at : ItemPlace) (o : Option (List ℕ)) (u : Unit {0}) → no_unknown at o ≡ Ok u → o ≡ None
none_unknown at None u e = refl
none_unknown at (Some k) u e = cc

-- A field whose key isn't known isn't there, where the keys of the object were found known.
no_field : (at : ItemPlace) (d : Data) (all : Members) (known : List (List ℕ)) (k : List ℕ) (u : Unit {0}) → list_any (λ w. bytes_eq w k) known ≡ false → object_at at d ≡ Ok all → known_at at known all ≡ Ok u → get k d ≡ None
no_field at null all known k u out o e = refl
no_field at (boolean b) all known k u out o e = refl
no_field at (number n) all known k u out o e = refl
no_field at (string s) all known k u out o e = refl
no_field at (array ds) all known k u out o e = refl
no_field at (object ms) all known k u out o e =
    let same : ms ≡ all = cc in
    no_member known k ms out (ap (unknown_in known) same ∙ none_unknown at (unknown_in known all) u e)

-- ---- what offers and exposes have in common

-- A field that isn't there in a protocol is read as one that its kind may have.
may_have : {A : Type 0} {P : A → Type 0} (k : Kind) (o : Option Data) (read : Data → ReadResult A) → (k ≡ kind.Protocol → o ≡ None) → ((d : Data) → Reads P (read d)) → Reads (λ x. MayHave k x P) (if_there o read)
may_have {A} {P} kind.Protocol o read h f = by o (h refl)
  where
    by : (o : Option Data) → o ≡ None → Reads (λ x. MayHave kind.Protocol x P) (if_there o read)
    by None e = gives refl
    by (Some d) e = absurd (true≢false (ap is_some e))
may_have kind.Directory o read h f = given o read f

-- The rights given in an item are read as what its kind may have, where protocols have none.
given_rights_reads : (k : Kind) (at : ItemPlace) (d : Data) → (k ≡ kind.Protocol → get (codes "rights") d ≡ None) → Reads (λ x. MayHave k x AreRights) (given_rights_at at d)
unfolding given_rights_at
given_rights_reads k at d h = may_have k (get (codes "rights") d) (rights_in_at at (codes "rights")) h (rights_in_reads at (codes "rights"))

-- The subdirectory of an item is read as what its kind may have, where protocols have none.
given_subdir_reads : (k : Kind) (at : ItemPlace) (d : Data) → (k ≡ kind.Protocol → get (codes "subdir") d ≡ None) → Reads (λ x. MayHave k x IsSubDir) (subdir_at at (codes "subdir") d)
unfolding subdir_at
given_subdir_reads k at d h = may_have k (get (codes "subdir") d) (subdir_in_at at (codes "subdir")) h (subdir_in_reads at (codes "subdir"))

-- The name at the target in an item is read as a name.
as_in_reads : (at : ItemPlace) (names : List (List ℕ)) (d : Data) → Reads IsName (as_in_at at names d)
unfolding as_in_at
as_in_reads at names d = next (name_in_reads at (codes "as") d) (λ name n. alone_reads at (codes "as") names name n)

-- What is read in `as`, if it is there, is a name.
pub as_reads : (at : ItemPlace) (names : List (List ℕ)) (d : Data) → Reads (λ o. ForSomeOf o IsName) (as_at at names d)
unfolding as_at
as_reads at names d = given (get (codes "as") d) (as_in_at at names) (as_in_reads at names)

-- The target name of a give, or else its own name, is a name.
pub target_is_name : (target : Option (List ℕ)) (name : List ℕ) → ForSomeOf target IsName → IsName name → IsName (unwrap_or target name)
target_is_name None name t n = n
target_is_name (Some target) name t n = t

-- what an item says of all its rows
record AreTerms (parent : Bool) (t : Terms) : Type 0 where
  from : IsOriginRow parent true t.from
  target : ForSomeOf t.target IsName
  rights : MayHave t.kind t.rights AreRights
  subdir : MayHave t.kind t.subdir IsSubDir

-- Terms and a name that are right make what is given, as a row that is right.
row_is_give : (parent : Bool) (t : Terms) (name : List ℕ) → AreTerms parent t → IsName name → IsGiveRow parent (give_row t name)
row_is_give parent t name h n = record {
  source_name = n;
  from = h.from;
  target_name = target_is_name t.target name h.target n;
  rights = h.rights;
  subdir = h.subdir;
}

-- ---- offers

-- The targets of an offer are read as names.
targets_reads : (at : ItemPlace) (d : Data) → Reads (All IsName) (targets_at at d)
unfolding targets_at
targets_reads at d = next (any (needed_at at (codes "to") d)) (λ value _. references_reads at (codes "to") value)

-- a row of `offer`, of which each sort has its own fact
abbrev pub IsOfferRow : OfferRow → Type 0
IsOfferRow row = IfSome (offer_in row) IsOffer × IfSome (storage_offer_in row) IsStorageOffer

-- Targets, terms and names that are right make offers that are right.
offers_are : (targets : List (List ℕ)) (t : Terms) (names : List (List ℕ)) → All IsName targets → AreTerms true t
    → All IsName names → All IsOfferRow (flat_map (offer_rows targets) (map (give_row t) names))
offers_are targets t names ts h ns =
    all_in_turn (IsGiveRow true) IsOfferRow (offer_rows targets) (map (give_row t) names)
    (λ give g. All_map IsName IsOfferRow (λ to. offered.Offer (offer_row give to)) targets (λ to o. (record { to = o; give = g }, tt)) ts)
    (All_map IsName (IsGiveRow true) (give_row t) names (λ name n. row_is_give true t name h n) ns)

-- A key that isn't known in an offer of protocols isn't known in one of a kind that is protocol.
unknown_in_offer : (k : Kind) (key : List ℕ)
    → list_any (λ w. bytes_eq w key) (offer_fields (sort.Routed kind.Protocol)) ≡ false → k ≡ kind.Protocol
    → list_any (λ w. bytes_eq w key) (offer_fields (sort.Routed k)) ≡ false
unknown_in_offer k key out e = ap (λ p. list_any (λ w. bytes_eq w key) (offer_fields (sort.Routed p))) e ∙ out

-- An offer's item of a kind is read as right offers, where protocols have no rights and no subdir.
routed_offer_reads : (k : Kind) (children : List Child) (at : ItemPlace) (d : Data)
    → (k ≡ kind.Protocol → get (codes "rights") d ≡ None) → (k ≡ kind.Protocol → get (codes "subdir") d ≡ None)
    → Reads (All IsOfferRow) (routed_offer_at k children at d)
unfolding routed_offer_at offered_at
routed_offer_reads k children at d no_rights no_subdir =
    next (item_names_reads k at d) (λ names ns.
    next (offer_from_reads at d) (λ from f.
    next (targets_reads at d) (λ targets ts.
    next (as_reads at names d) (λ target t.
    next (given_rights_reads k at d no_rights) (λ rights r.
    next (given_subdir_reads k at d no_subdir) (λ subdir s.
    next (any (dependency_at at d)) (λ dependency _.
    next (any (given_availability_at at d)) (λ availability _.
    next (any (source_unknown_at at d)) (λ unknown _.
    gives (offers_are targets (record { kind = k; from = settled children unknown from; target = target; rights = rights; subdir = subdir; dependency = dependency; availability = availability })
    names ts (record { from = settled_is true children unknown from f; target = t; rights = r; subdir = s }) ns))))))))))

-- A storage source, targets and names that are right make storage offers that are right.
storage_offers_are : (from : Origin) (target : Option (List ℕ)) (targets names : List (List ℕ)) → IsStorageSource from
    → ForSomeOf target IsName → All IsName targets → All IsName names
    → All IsOfferRow (flat_map (storage_offer_rows from target targets) names)
storage_offers_are from target targets names f t ts ns =
    all_in_turn IsName IsOfferRow (storage_offer_rows from target targets) names
    (λ name n. All_map IsName IsOfferRow (λ to. offered.Storage (storage_offer from target name to)) targets
    (λ to o. (tt, record { to = o; source_name = n; from = f; target_name = target_is_name target name t n })) ts) ns

-- The item of a storage is read as offers that are right.
storage_offer_reads : (at : ItemPlace) (d : Data) → Reads (All IsOfferRow) (storage_offer_at at d)
unfolding storage_offer_at storages_offered_at
storage_offer_reads at d =
    next (storage_names_reads at d) (λ names ns.
    next (storage_from_reads at d) (λ from f.
    next (targets_reads at d) (λ targets ts.
    next (as_reads at names d) (λ target t.
    next (any (given_availability_at at d)) (λ availability _.
    gives (storage_offers_are from target targets names f t ts ns))))))

-- An item of any sort is read as offers that are right, where its keys are known.
offer_of_sort_reads : (s : Sort) (children : List Child) (at : ItemPlace) (d : Data) (members : Members) (u : Unit {0})
    → object_at at d ≡ Ok members → known_at at (offer_fields s) members ≡ Ok u
    → Reads (All IsOfferRow) (offer_of_sort s children at d)
offer_of_sort_reads (sort.Routed k) children at d members u m known =
    routed_offer_reads k children at d
    (λ e. no_field at d members (offer_fields (sort.Routed k)) (codes "rights") u (unknown_in_offer k (codes "rights") refl e) m known)
    (λ e. no_field at d members (offer_fields (sort.Routed k)) (codes "subdir") u (unknown_in_offer k (codes "subdir") refl e) m known)
offer_of_sort_reads sort.Storage children at d members u m known = storage_offer_reads at d

-- Each row that an item of `offer` gives is one that such an item can be read as.
pub offer_reads : (children : List Child) (at : ItemPlace) (d : Data) → Reads (All IsOfferRow) (offer_at children at d)
unfolding offer_at
offer_reads children at d =
    next (exact (object_at at d)) (λ members m.
    next (any (sort_at at d)) (λ s _.
    next (exact (known_at at (offer_fields s) members)) (λ known u.
    offer_of_sort_reads s children at d members known m u)))

-- ---- exposes

-- Terms and names that are right make exposes that are right, where the terms are strong.
exposes_are : (t : Terms) (names : List (List ℕ)) → AreTerms false t → t.dependency ≡ Strong → All IsName names → All IsExpose (map (give_row t) names)
exposes_are t names h strong ns =
    All_map IsName IsExpose (give_row t) names (λ name n. record { give = row_is_give false t name h n; dependency = strong }) ns

-- A key that isn't known in an expose of protocols isn't known in one of a kind that is protocol.
unknown_in_expose : (k : Kind) (key : List ℕ) → list_any (λ w. bytes_eq w key) (expose_fields kind.Protocol) ≡ false → k ≡ kind.Protocol → list_any (λ w. bytes_eq w key) (expose_fields k) ≡ false
unknown_in_expose k key out e = ap (λ p. list_any (λ w. bytes_eq w key) (expose_fields p)) e ∙ out

-- Each expose that an item of `expose` gives is one that such an item can be read as.
pub expose_reads : (children : List Child) (at : ItemPlace) (d : Data) → Reads (All IsExpose) (expose_at children at d)
unfolding expose_at exposed_at
expose_reads children at d =
    next (exact (object_at at d)) (λ members m.
    next (any (kind_at at d)) (λ k _.
    next (exact (known_at at (expose_fields k) members)) (λ known u.
    next (item_names_reads k at d) (λ names ns.
    next (expose_from_reads at d) (λ from f.
    next (any (expose_to_at at d)) (λ to _.
    next (as_reads at names d) (λ target t.
    next (given_rights_reads k at d (λ e. no_field at d members (expose_fields k) (codes "rights") known (unknown_in_expose k (codes "rights") refl e) m u)) (λ rights r.
    next (given_subdir_reads k at d (λ e. no_field at d members (expose_fields k) (codes "subdir") known (unknown_in_expose k (codes "subdir") refl e) m u)) (λ subdir s.
    next (any (given_availability_at at d)) (λ availability _.
    next (any (source_unknown_at at d)) (λ unknown _.
    gives (exposes_are (record { kind = k; from = settled children unknown from; target = target; rights = rights; subdir = subdir; dependency = Strong; availability = availability })
    names (record { from = settled_is false children unknown from f; target = t; rights = r; subdir = s }) refl ns))))))))))))
