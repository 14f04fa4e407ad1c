-- What a manifest declares is readable, and so well formed.
use Rattle.std.proofs.Common.{◌≡◌, ℕ, ◌≤◌, List, [], length, codes, true, false, not, ◌&&◌, nat_le, Option, Some, None, Ok, Err, IsTrue, refl, arith, rules}
use Rattle.std.specs.Prelude.{IfOk, All, ok_or}
use Rattle.std.specs.List.{list_all}
use Rattle.std.proofs.lemmas.Result.{IfOk-at_ok}
use Rattle.std.proofs.lemmas.List.Elements.{All-nil, All-append}
use Rattle.std.proofs.lemmas.List.Sums.{list_all-from_AllPass}
use Rattle.serde_json.specs.Data.{Data, Items, no_items, item}
use Rattle.serde_json.specs.Find.{get, as_array}
use Rattle.serde_json.specs.Read as json
use Rattle.cm_names.specs.Name.{IsName}
use Rattle.cm_decl.specs.declared.section.Section.{Section}
use Rattle.cm_decl.specs.declared.section.Section.TheVariants as section
use Rattle.cm_decl.specs.declared.origin.Origin.{Origin}
use Rattle.cm_decl.specs.declared.origin.Origin.TheVariants as origin
use Rattle.cm_decl.specs.declared.rows.Usage.{Usage}
use Rattle.cm_decl.specs.declared.rows.Give.{Give}
use Rattle.cm_decl.specs.declared.decl.Decl.{Decl}
use Rattle.cm_decl.specs.Valid.{is_void, is_parent, is_well_formed}
use Rattle.cm_read.specs.declared.fault.ItemPlace.{ItemPlace}
use Rattle.cm_read.specs.Numbers.{wrong_type, too_many_rows, max_rows}
use Rattle.cm_read.specs.Reading.{ReadResult, bad, start}
use Rattle.cm_read.specs.ReadingInside.{GivesReading}
use Rattle.cm_read.specs.Fields.{object_at}
use Rattle.std.specs.Prelude.{◌+◌, filter_map, is_none}
use Rattle.std.proofs.Common.{◌∷◌, ap}
use Rattle.std.proofs.lemmas.Bool.{and_from}
use Rattle.cm_facts.proofs.Lists.{All_filter_map}
use Rattle.cm_decl.specs.declared.environment.Registration.{Registration}
use Rattle.cm_decl.specs.declared.environment.Environment.{Environment}
use Rattle.cm_decl.specs.declared.storage.Storage.{Storage}
use Rattle.cm_decl.specs.declared.storage.StorageOffer.{StorageOffer}
use Rattle.cm_decl.specs.Valid.{is_static_source, is_storage_source, are_registrations, is_environment}
use Rattle.cm_decl.specs.Valid.{is_further_formed}
use Rattle.cm_read.specs.declared.rows.CapabilityRow.{CapabilityRow}
use Rattle.cm_read.specs.declared.rows.CapabilityRow.TheVariants as capability_row
use Rattle.cm_read.specs.declared.rows.UseRow.{UseRow}
use Rattle.cm_read.specs.declared.rows.UseRow.TheVariants as use_row
use Rattle.cm_read.specs.declared.rows.OfferRow.{OfferRow}
use Rattle.cm_read.specs.declared.rows.OfferRow.TheVariants as offered
use Rattle.cm_read.specs.declared.rows.SectionRows.{SectionRows}
use Rattle.cm_read.specs.Items.{child_at, collection_at, capability_at, capability_in, storage_in, use_at}
use Rattle.cm_read.specs.Items.{usage_in, debug_use_in, storage_use_in, offer_at, offer_in, storage_offer_in}
use Rattle.cm_read.specs.Items.{expose_at}
use Rattle.cm_read.specs.Environments.{environment_item_at}
use Rattle.cm_read.specs.Sections.{next as next_place, rows_at, section_at}
use Rattle.cm_read.specs.Manifest.{program_at, runner_at, sections_at, children_at, section_rows_at}
use Rattle.cm_read.specs.Manifest.{declared_by, decl_at, of_data, decl_of_json}
use Rattle.cm_read.specs.Readable.{IsOriginRow, IsStaticSource, IsStorageSource, ForSomeOf, AreRows, IsChildRow}
use Rattle.cm_read.specs.Readable.{IsCollection, IsCapability, IsStorage, IsUsage, IsDebugUse, IsStorageUse}
use Rattle.cm_read.specs.Readable.{IsOffer, IsStorageOffer, IsExpose, IsRegistration, IsEnvironment, IsReadable}
use Rattle.cm_read.specs.ReadableInside.{WhatIsReadIsReadable, WhatIsReadIsReadBack, ReadableIsWellFormed}
use Rattle.cm_read.proofs.lemmas.reading.Read.{Reads, fails, gives, any, next, tested, given}
use Rattle.cm_read.proofs.lemmas.reading.FieldsRead.{name_reads}
use Rattle.cm_read.proofs.lemmas.back.TextBack.{texts_are_read_back_lem}
use Rattle.cm_read.proofs.lemmas.reading.RowsRead.{child_reads, collection_reads, IsCapabilityRow, capability_reads, IsUseRow}
use Rattle.cm_read.proofs.lemmas.reading.RowsRead.{use_reads, IsOfferRow, offer_reads, expose_reads}
use Rattle.cm_read.proofs.lemmas.reading.EnvironmentsRead.{environment_item_reads}

-- ---- sections

-- What is read of all items as rows is rows of a kind, where what is read of each item is.
rows_read : {A : Type 0} (P : A → Type 0) (read : ItemPlace → Data → ReadResult (List A)) (at : ItemPlace) (items : Items) → ((at : ItemPlace) (d : Data) → Reads (All P) (read at d)) → Reads (All P) (rows_at read at items)
rows_read P read at no_items one = gives (All-nil P)
rows_read P read at (item d ds) one =
    next (one at d) (λ first f. next (rows_read P read (next_place at) ds one) (λ others o. gives (All-append P first others f o)))

-- A number that the test finds to be at most 16384 is.
few : (n : ℕ) → nat_le n 16384 ≡ true → n ≤ 16384
few n e = grind (arith, rules)

-- No rows are rows of any kind, and few enough.
no_rows : {A : Type 0} {P : A → Type 0} → AreRows P []
no_rows {A} {P} = record { limit = omega arith; each = All-nil P }

-- A section, if it is there, is read as rows of a kind, where each of its items is.
section_reads : {A : Type 0} {P : A → Type 0} (read : ItemPlace → Data → ReadResult (List A)) (s : Section) (o : Option Data) → ((at : ItemPlace) (d : Data) → Reads (All P) (read at d)) → Reads (AreRows P) (section_at read s o)
section_reads read s None one = gives no_rows
section_reads {A} {P} read s (Some d) one =
    next (any (ok_or (as_array d) (bad (start s) wrong_type []))) (λ items _.
    next (rows_read P read (start s) items one) (λ rows h.
    tested (nat_le (length rows) max_rows) rows (bad (start s) too_many_rows []) (λ e. record { limit = few (length rows) e; each = h })))

-- ---- the whole

-- The program's runner is read as a name.
program_reads : (d : Data) → Reads IsName (program_at d)
unfolding program_at
program_reads d = next (any (object_at (start section.Program) d)) (λ members _. name_reads (start section.Program) (codes "runner") d)

-- The runner, where one is given, is read as a name.
runner_reads : (d : Data) → Reads (λ o. ForSomeOf o IsName) (runner_at d)
unfolding runner_at
runner_reads d = given (get (codes "program") d) program_at program_reads

-- the rows of all sections that list them
record AreSectionRows (r : SectionRows) : Type 0 where
  children : AreRows IsChildRow r.children
  collections : AreRows IsCollection r.collections
  capabilities : AreRows IsCapabilityRow r.capabilities
  uses : AreRows IsUseRow r.uses
  offers : AreRows IsOfferRow r.offers
  exposes : AreRows IsExpose r.exposes
  environments : AreRows IsEnvironment r.environments

-- The children are read as rows of children.
children_read : (d : Data) → Reads (AreRows IsChildRow) (children_at d)
unfolding children_at
children_read d = section_reads child_at section.Children (get (codes "children") d) child_reads

-- The sections of a manifest are read as rows that are right for each section.
section_rows_read : (d : Data) → Reads AreSectionRows (section_rows_at d)
unfolding section_rows_at
section_rows_read d =
    next (children_read d) (λ children c.
    next (section_reads collection_at section.Collections (get (codes "collections") d) collection_reads) (λ collections l.
    next (section_reads capability_at section.Capabilities (get (codes "capabilities") d) capability_reads) (λ capabilities p.
    next (section_reads use_at section.Uses (get (codes "use") d) use_reads) (λ uses u.
    next (section_reads (offer_at children) section.Offers (get (codes "offer") d) (offer_reads children)) (λ offers o.
    next (section_reads (expose_at children) section.Exposes (get (codes "expose") d) (expose_reads children)) (λ exposes e.
    next (section_reads environment_item_at section.Environments (get (codes "environments") d) environment_item_reads) (λ environments v.
    gives (record { children = c; collections = l; capabilities = p; uses = u; offers = o; exposes = e; environments = v }))))))))

-- ---- rows by their kinds

-- The capabilities and the storages among a section's rows are as many as the rows.
capability_count : (rows : List CapabilityRow)
    → length (filter_map capability_in rows) + length (filter_map storage_in rows) ≡ length rows
capability_count [] = refl
capability_count (capability_row.Capability c ∷ rows) = omega (arith, capability_count rows)
capability_count (capability_row.Storage s ∷ rows) = omega (arith, capability_count rows)

-- The uses, debug uses and storage uses among a section's rows are as many as the rows.
use_count : (rows : List UseRow)
    → length (filter_map usage_in rows) + (length (filter_map debug_use_in rows) + length (filter_map storage_use_in rows)) ≡ length rows
use_count [] = refl
use_count (use_row.Usage u ∷ rows) = omega (arith, use_count rows)
use_count (use_row.Debug u ∷ rows) = omega (arith, use_count rows)
use_count (use_row.Storage u ∷ rows) = omega (arith, use_count rows)

-- The offers and the storage offers among a section's rows are as many as the rows.
offer_count : (rows : List OfferRow)
    → length (filter_map offer_in rows) + length (filter_map storage_offer_in rows) ≡ length rows
offer_count [] = refl
offer_count (offered.Offer o ∷ rows) = omega (arith, offer_count rows)
offer_count (offered.Storage o ∷ rows) = omega (arith, offer_count rows)

-- A runner and rows that were read make a readable declaration.
declared_is : (runner : Option (List ℕ)) (r : SectionRows) → ForSomeOf runner IsName → AreSectionRows r
    → IsReadable (declared_by runner r)
declared_is runner r named h = record {
  runner = named;
  children = h.children;
  collections = h.collections;
  capabilities = record {
    limit = omega (arith, capability_count r.capabilities, h.capabilities.limit);
    each = All_filter_map IsCapabilityRow IsCapability capability_in r.capabilities (λ row is. is.0) h.capabilities.each;
  };
  uses = record {
    limit = omega (arith, use_count r.uses, h.uses.limit);
    each = All_filter_map IsUseRow IsUsage usage_in r.uses (λ row is. is.0) h.uses.each;
  };
  offers = record {
    limit = omega (arith, offer_count r.offers, h.offers.limit);
    each = All_filter_map IsOfferRow IsOffer offer_in r.offers (λ row is. is.0) h.offers.each;
  };
  exposes = h.exposes;
  environments = h.environments;
  debug_uses = All_filter_map IsUseRow IsDebugUse debug_use_in r.uses (λ row is. is.1.0) h.uses.each;
  storages = All_filter_map IsCapabilityRow IsStorage storage_in r.capabilities (λ row is. is.1) h.capabilities.each;
  storage_uses = All_filter_map IsUseRow IsStorageUse storage_use_in r.uses (λ row is. is.1.1) h.uses.each;
  storage_offers = All_filter_map IsOfferRow IsStorageOffer storage_offer_in r.offers (λ row is. is.1) h.offers.each;
  capability_rows = omega (arith, capability_count r.capabilities, h.capabilities.limit);
  use_rows = omega (arith, use_count r.uses, h.uses.limit);
  offer_rows = omega (arith, offer_count r.offers, h.offers.limit);
}

-- A manifest is read as a readable declaration.
decl_reads : (d : Data) → Reads IsReadable (decl_at d)
unfolding decl_at
decl_reads d =
    next (any (sections_at d)) (λ known _.
    next (runner_reads d) (λ runner n.
    next (section_rows_read d) (λ rows h.
    gives (declared_is runner rows n h))))

-- Data that may be missing are read as a readable declaration.
data_reads : (o : Option Data) → Reads IsReadable (of_data o)
data_reads None = fails _
data_reads (Some d) = decl_reads d

-- The declaration that a JSON text is read as, if there is one, is readable.
pub json_reads : (text : List ℕ) → Reads IsReadable (decl_of_json text)
json_reads text = data_reads (json.read text)

-- ---- the laws

-- Every declaration that is read is readable.
pub what_is_read_is_readable_lem : WhatIsReadIsReadable
what_is_read_is_readable_lem text d e = IfOk-at_ok IsReadable e (json_reads text).value

-- A source in a section that doesn't allow the void isn't the void.
not_void : (o : Origin) → IsOriginRow true false o → not (is_void o) ≡ true
not_void origin.Parent h = refl
not_void origin.Own h = refl
not_void origin.Framework h = refl
not_void (origin.Child c) h = refl
not_void origin.Void h = h

-- A source in a section that doesn't allow the parent isn't the parent.
not_parent : (o : Origin) → IsOriginRow false true o → not (is_parent o) ≡ true
not_parent origin.Parent h = h
not_parent origin.Own h = refl
not_parent origin.Framework h = refl
not_parent (origin.Child c) h = refl
not_parent origin.Void h = refl

-- A source that is static is found to be so.
is_static : (o : Origin) → IsStaticSource o → is_static_source o ≡ true
is_static origin.Parent h = refl
is_static origin.Own h = refl
is_static origin.Framework h = absurd h
is_static (origin.Child c) h = ap is_none h.0
is_static origin.Void h = absurd h

-- A source of a storage is found to be one.
is_of_storage : (o : Origin) → IsStorageSource o → is_storage_source o ≡ true
is_of_storage origin.Parent h = refl
is_of_storage origin.Own h = refl
is_of_storage origin.Framework h = absurd h
is_of_storage (origin.Child c) h = absurd h
is_of_storage origin.Void h = refl

-- Registrations that are right are found to be well formed.
registrations_formed : (rs : List Registration) → All IsRegistration rs → are_registrations rs ≡ true
registrations_formed rs h =
    list_all-from_AllPass (λ (r : Registration). is_static_source r.from) rs (λ k z lt. is_static _ (h k z lt).from)

-- An environment that is right is found to be well formed.
environment_formed : (e : Environment) → IsEnvironment e → is_environment e ≡ true
environment_formed e h =
    and_from (are_registrations e.runners) (are_registrations e.debug) (registrations_formed e.runners h.runners)
    (registrations_formed e.debug h.debug)

-- A readable declaration is well formed in what is asked further.
further_formed : (d : Decl) → IsReadable d → is_further_formed d ≡ true
further_formed d h =
    and_from (list_all is_environment d.environments)
    (list_all (λ s. is_static_source s.from) d.storages && list_all (λ o. is_storage_source o.from) d.storage_offers)
    (list_all-from_AllPass is_environment d.environments (λ k z lt. environment_formed _ (h.environments.each k z lt)))
    (and_from (list_all (λ s. is_static_source s.from) d.storages) (list_all (λ o. is_storage_source o.from) d.storage_offers)
    (list_all-from_AllPass (λ (s : Storage). is_static_source s.from) d.storages (λ k z lt. is_static _ (h.storages k z lt).from))
    (list_all-from_AllPass (λ (o : StorageOffer). is_storage_source o.from) d.storage_offers (λ k z lt. is_of_storage _ (h.storage_offers k z lt).from)))

-- The sources and targets of a readable declaration are of the sorts that their sections allow.
pub readable_is_well_formed_lem : ReadableIsWellFormed
readable_is_well_formed_lem d h =
    and_from (list_all (λ u. not (is_void u.from)) d.uses) (list_all (λ g. not (is_parent g.from)) d.exposes && is_further_formed d)
    (list_all-from_AllPass (λ (u : Usage). not (is_void u.from)) d.uses (λ k z lt. not_void _ (h.uses.each k z lt).from))
    (and_from (list_all (λ g. not (is_parent g.from)) d.exposes) (is_further_formed d)
    (list_all-from_AllPass (λ (g : Give). not (is_parent g.from)) d.exposes (λ k z lt. not_parent _ (h.exposes.each k z lt).give.from))
    (further_formed d h))

-- What is read is read back from the text that is written of it.
pub what_is_read_is_read_back_lem : WhatIsReadIsReadBack
what_is_read_is_read_back_lem text d e = texts_are_read_back_lem d (what_is_read_is_readable_lem text d e)

-- ---- what the code returns

-- a declaration that was read from a value, unless memory ran out
pub record IsOfData (r : ReadResult Decl) : Type 0 where
  pub readable : IfOk r IsReadable
  pub formed : IfOk r (λ d. IsTrue (is_well_formed d))

-- A declaration that a function gives for a value is readable and well formed.
pub is_of_data : (r : ReadResult Decl) (d : Data) → GivesReading r (decl_at d) → IsOfData r
is_of_data (Ok x) d e =
    let h : IsReadable x = IfOk-at_ok IsReadable e (decl_reads d).value in
    record { readable = h; formed = readable_is_well_formed_lem x h }
is_of_data (Err e) d h = record { readable = tt; formed = tt }
