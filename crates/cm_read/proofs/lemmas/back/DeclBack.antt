-- What is written for a declaration is read back.
use Rattle.std.proofs.Common.{◌≡◌, ℕ, suc, ◌≤◌, ◌+◌, List, [], ◌∷◌, ◌++◌, length, map, Option, Some, None, Ok, length-append}
use Rattle.std.proofs.Common.{refl, ap, sym, subst, ◌∙◌, arith, append-nil}
use Rattle.std.specs.Prelude.{filter_map}
use Rattle.std.specs.List.{cons_option}
use Rattle.std.proofs.lemmas.List.Elements.{filter_map-append}
use Rattle.serde_json.specs.Data.{Data, array}
use Rattle.serde_json.specs.View.{items_of}
use Rattle.serde_json.proofs.OnLiterals.{serde_json_on_literals}
use Rattle.cm_names.specs.Name.{IsName}
use Rattle.cm_names.proofs.lemmas.texts.Name.{name_faultless}
use Rattle.cm_decl.specs.declared.section.Section.TheVariants as section
use Rattle.cm_decl.specs.declared.rows.Child.{Child}
use Rattle.cm_decl.specs.declared.environment.Environment.{Environment}
use Rattle.cm_decl.specs.declared.decl.Decl.{Decl}
use Rattle.cm_read.specs.declared.rows.CapabilityRow.{CapabilityRow}
use Rattle.cm_read.specs.declared.rows.CapabilityRow.TheVariants as capability_row
use Rattle.cm_read.specs.declared.rows.UseRow.{UseRow}
use Rattle.cm_read.specs.declared.rows.UseRow.TheVariants as use_row
use Rattle.cm_read.specs.declared.rows.OfferRow.{OfferRow}
use Rattle.cm_read.specs.declared.rows.OfferRow.TheVariants as offered
use Rattle.cm_read.specs.declared.rows.SectionRows.{SectionRows}
use Rattle.cm_read.specs.Numbers.{max_rows}
use Rattle.cm_read.specs.Reading.{start}
use Rattle.cm_read.specs.Fields.{name_at, name_in_at}
use Rattle.cm_read.specs.Items.{capability_at, capability_in, storage_in, use_at, usage_in, debug_use_in}
use Rattle.cm_read.specs.Items.{storage_use_in, offer_at, offer_in, storage_offer_in, expose_at}
use Rattle.cm_read.specs.Environments.{environment_item_at}
use Rattle.cm_read.specs.Sections.{section_at}
use Rattle.cm_read.specs.Manifest.{program_at, runner_at, sections_at, children_at, section_rows_at, decl_at}
use Rattle.cm_read.specs.Manifest.{declared_by}
use Rattle.cm_write.specs.Writing.{decl_data, capability_data, use_data, offer_data, expose_data, storage_data}
use Rattle.cm_write.specs.Writing.{debug_use_data, storage_use_data, storage_offer_data, environment_data, list_of}
use Rattle.cm_write.specs.Writing.{capability_items, use_items, offer_items}
use Rattle.cm_read.specs.Readable.{ForSomeOf, IsCapability, IsUsage, IsOffer, IsExpose, IsStorage, IsDebugUse}
use Rattle.cm_read.specs.Readable.{IsStorageUse, IsStorageOffer, IsEnvironment, IsReadable}
use Rattle.cm_read.proofs.lemmas.back.RoundTrip.{section_read_back, children_read_back}
use Rattle.cm_read.proofs.lemmas.back.RoundTrip.{collections_read_back, rows_before, rows_last, section_of_items}
use Rattle.cm_read.proofs.lemmas.back.RowsBack.{capability_read_back, storage_read_back, use_read_back, debug_use_read_back}
use Rattle.cm_read.proofs.lemmas.back.RowsBack.{storage_use_read_back, offer_read_back, storage_offer_read_back}
use Rattle.cm_read.proofs.lemmas.back.RowsBack.{expose_read_back, environment_read_back}

-- ---- the rows of a section with several kinds of them

-- The rows of `capabilities`: all capabilities of a declaration, then its storages.
abbrev capability_rows : Decl → List CapabilityRow
capability_rows d = map capability_row.Capability d.capabilities ++ map capability_row.Storage d.storages

-- The rows of `use`: the uses of a declaration, then debug ones and those of storages.
abbrev use_rows : Decl → List UseRow
use_rows d = map use_row.Usage d.uses ++ (map use_row.Debug d.debug_uses ++ map use_row.Storage d.storage_uses)

-- The rows of `offer`: the offers of a declaration, then those of storages.
abbrev offer_rows : Decl → List OfferRow
offer_rows d = map offered.Offer d.offers ++ map offered.Storage d.storage_offers

-- A list is as long as what is made of its items one by one.
length_map : {A B : Type 0} (f : A → B) (xs : List A) → length (map f xs) ≡ length xs
length_map f [] = refl
length_map f (x ∷ xs) = ap suc (length_map f xs)

-- Two lists made of values have as many rows together as there are values in both.
two_lengths : {A B R : Type 0} (f : A → R) (g : B → R) (xs : List A) (ys : List B)
    → length (map f xs ++ map g ys) ≡ length xs + length ys
two_lengths f g xs ys =
    length-append (map f xs) (map g ys) ∙ ap (λ n. n + length (map g ys)) (length_map f xs)
    ∙ ap (λ n. length xs + n) (length_map g ys)

-- A readable declaration has no more rows of capabilities than a section may have.
few_capabilities : (d : Decl) → IsReadable d → length (capability_rows d) ≤ max_rows
few_capabilities d h =
    subst (λ n. n ≤ max_rows) (sym (two_lengths capability_row.Capability capability_row.Storage d.capabilities d.storages)) h.capability_rows

-- A readable declaration has no more rows of offers than a section may have.
few_offers : (d : Decl) → IsReadable d → length (offer_rows d) ≤ max_rows
few_offers d h =
    subst (λ n. n ≤ max_rows) (sym (two_lengths offered.Offer offered.Storage d.offers d.storage_offers)) h.offer_rows

-- A readable declaration has no more rows of uses than a section may have.
few_uses : (d : Decl) → IsReadable d → length (use_rows d) ≤ max_rows
few_uses d h =
    let others = two_lengths use_row.Debug use_row.Storage d.debug_uses d.storage_uses in
    let all = length-append (map use_row.Usage d.uses) (map use_row.Debug d.debug_uses ++ map use_row.Storage d.storage_uses)
    ∙ ap (λ n. n + length (map use_row.Debug d.debug_uses ++ map use_row.Storage d.storage_uses)) (length_map use_row.Usage d.uses)
    ∙ ap (λ n. length d.uses + n) others in
    subst (λ n. n ≤ max_rows) (sym all) h.use_rows

-- ---- these rows are read

-- What is written for the capabilities of a readable declaration is read back as their rows.
capabilities_back : (d : Decl) → IsReadable d
    → section_at capability_at section.Capabilities (Some (array (items_of (capability_items d)))) ≡ Ok (capability_rows d)
capabilities_back d h =
    section_of_items capability_at section.Capabilities (capability_items d) (capability_rows d)
    (rows_before capability_at capability_data capability_row.Capability IsCapability d.capabilities (map storage_data d.storages)
    (map capability_row.Storage d.storages) (start section.Capabilities) capability_read_back h.capabilities.each
    (λ at. rows_last capability_at storage_data capability_row.Storage IsStorage d.storages at storage_read_back h.storages))
    (few_capabilities d h)

-- What is written for the uses of a readable declaration is read back as their rows.
uses_back : (d : Decl) → IsReadable d
    → section_at use_at section.Uses (Some (array (items_of (use_items d)))) ≡ Ok (use_rows d)
uses_back d h =
    section_of_items use_at section.Uses (use_items d) (use_rows d)
    (rows_before use_at use_data use_row.Usage IsUsage d.uses (map debug_use_data d.debug_uses ++ map storage_use_data d.storage_uses)
    (map use_row.Debug d.debug_uses ++ map use_row.Storage d.storage_uses) (start section.Uses) use_read_back h.uses.each
    (λ at. rows_before use_at debug_use_data use_row.Debug IsDebugUse d.debug_uses (map storage_use_data d.storage_uses)
    (map use_row.Storage d.storage_uses) at debug_use_read_back h.debug_uses
    (λ at. rows_last use_at storage_use_data use_row.Storage IsStorageUse d.storage_uses at storage_use_read_back h.storage_uses)))
    (few_uses d h)

-- What is written for the offers of a readable declaration is read back as their rows.
offers_back : (children : List Child) (d : Decl) → IsReadable d
    → section_at (offer_at children) section.Offers (Some (array (items_of (offer_items d)))) ≡ Ok (offer_rows d)
offers_back children d h =
    section_of_items (offer_at children) section.Offers (offer_items d) (offer_rows d)
    (rows_before (offer_at children) offer_data offered.Offer IsOffer d.offers (map storage_offer_data d.storage_offers)
    (map offered.Storage d.storage_offers) (start section.Offers) (offer_read_back children) h.offers.each
    (λ at. rows_last (offer_at children) storage_offer_data offered.Storage IsStorageOffer d.storage_offers at
    (storage_offer_read_back children) h.storage_offers))
    (few_offers d h)

-- What is written for the exposes of a readable declaration is read back as these.
exposes_back : (children : List Child) (d : Decl) → IsReadable d
    → section_at (expose_at children) section.Exposes (Some (list_of expose_data d.exposes)) ≡ Ok d.exposes
exposes_back children d h =
    section_read_back (expose_at children) expose_data IsExpose d.exposes section.Exposes (expose_read_back children) h.exposes

-- What is written for the environments of a readable declaration is read back as these.
environments_back : (d : Decl) → IsReadable d
    → section_at environment_item_at section.Environments (Some (list_of environment_data d.environments)) ≡ Ok d.environments
environments_back d h =
    section_read_back environment_item_at environment_data IsEnvironment d.environments section.Environments environment_read_back h.environments

-- ---- and taken apart again

-- f takes all of these rows
all_taken : {A R : Type 0} (f : R → Option A) (wrap : A → R) (xs : List A) → ((x : A) → f (wrap x) ≡ Some x)
    → filter_map f (map wrap xs) ≡ xs
all_taken f wrap [] h = refl
all_taken f wrap (x ∷ xs) h =
    ap (λ o. cons_option o (filter_map f (map wrap xs))) (h x) ∙ ap (λ ys. x ∷ ys) (all_taken f wrap xs h)

-- f takes none of them
none_taken : {A B R : Type 0} (f : R → Option A) (wrap : B → R) (xs : List B) → ((x : B) → f (wrap x) ≡ None)
    → filter_map f (map wrap xs) ≡ []
none_taken f wrap [] h = refl
none_taken f wrap (x ∷ xs) h =
    ap (λ o. cons_option o (filter_map f (map wrap xs))) (h x) ∙ none_taken f wrap xs h

-- What f takes of two lists, one behind the other, is what it takes of each.
two_taken : {A R : Type 0} (f : R → Option A) (rs qs : List R) (xs ys : List A) → filter_map f rs ≡ xs → filter_map f qs ≡ ys
    → filter_map f (rs ++ qs) ≡ xs ++ ys
two_taken f rs qs xs ys e g = filter_map-append f rs qs ∙ ap (λ t. t ++ filter_map f qs) e ∙ ap (λ t. xs ++ t) g

-- The capabilities among the rows of a declaration's capabilities are its capabilities.
capabilities_taken : (d : Decl) → filter_map capability_in (capability_rows d) ≡ d.capabilities
capabilities_taken d =
    two_taken capability_in (map capability_row.Capability d.capabilities)
    (map capability_row.Storage d.storages) d.capabilities [] (all_taken capability_in capability_row.Capability d.capabilities (λ x. refl))
    (none_taken capability_in capability_row.Storage d.storages (λ x. refl)) ∙ append-nil d.capabilities

-- The storages among the rows of a declaration's capabilities are its storages.
storages_taken : (d : Decl) → filter_map storage_in (capability_rows d) ≡ d.storages
storages_taken d =
    two_taken storage_in (map capability_row.Capability d.capabilities)
    (map capability_row.Storage d.storages) [] d.storages (none_taken storage_in capability_row.Capability d.capabilities (λ x. refl))
    (all_taken storage_in capability_row.Storage d.storages (λ x. refl))

-- The uses among the rows of a declaration's uses are its uses.
uses_taken : (d : Decl) → filter_map usage_in (use_rows d) ≡ d.uses
uses_taken d =
    two_taken usage_in (map use_row.Usage d.uses)
    (map use_row.Debug d.debug_uses ++ map use_row.Storage d.storage_uses) d.uses [] (all_taken usage_in use_row.Usage d.uses (λ x. refl))
    (two_taken usage_in (map use_row.Debug d.debug_uses)
    (map use_row.Storage d.storage_uses) [] [] (none_taken usage_in use_row.Debug d.debug_uses (λ x. refl))
    (none_taken usage_in use_row.Storage d.storage_uses (λ x. refl))) ∙ append-nil d.uses

-- The debug uses among the rows of a declaration's uses are its debug uses.
debug_uses_taken : (d : Decl) → filter_map debug_use_in (use_rows d) ≡ d.debug_uses
debug_uses_taken d =
    two_taken debug_use_in (map use_row.Usage d.uses)
    (map use_row.Debug d.debug_uses ++ map use_row.Storage d.storage_uses) [] (d.debug_uses ++ []) (none_taken debug_use_in use_row.Usage d.uses (λ x. refl))
    (two_taken debug_use_in (map use_row.Debug d.debug_uses)
    (map use_row.Storage d.storage_uses) d.debug_uses [] (all_taken debug_use_in use_row.Debug d.debug_uses (λ x. refl))
    (none_taken debug_use_in use_row.Storage d.storage_uses (λ x. refl))) ∙ append-nil d.debug_uses

-- The storage uses among the rows of a declaration's uses are its storage uses.
storage_uses_taken : (d : Decl) → filter_map storage_use_in (use_rows d) ≡ d.storage_uses
storage_uses_taken d =
    two_taken storage_use_in (map use_row.Usage d.uses)
    (map use_row.Debug d.debug_uses ++ map use_row.Storage d.storage_uses) [] d.storage_uses (none_taken storage_use_in use_row.Usage d.uses (λ x. refl))
    (two_taken storage_use_in (map use_row.Debug d.debug_uses)
    (map use_row.Storage d.storage_uses) [] d.storage_uses (none_taken storage_use_in use_row.Debug d.debug_uses (λ x. refl))
    (all_taken storage_use_in use_row.Storage d.storage_uses (λ x. refl)))

-- The offers among the rows of a declaration's offers are its offers.
offers_taken : (d : Decl) → filter_map offer_in (offer_rows d) ≡ d.offers
offers_taken d =
    two_taken offer_in (map offered.Offer d.offers)
    (map offered.Storage d.storage_offers) d.offers [] (all_taken offer_in offered.Offer d.offers (λ x. refl))
    (none_taken offer_in offered.Storage d.storage_offers (λ x. refl)) ∙ append-nil d.offers

-- The storage offers among the rows of a declaration's offers are its storage offers.
storage_offers_taken : (d : Decl) → filter_map storage_offer_in (offer_rows d) ≡ d.storage_offers
storage_offers_taken d =
    two_taken storage_offer_in (map offered.Offer d.offers)
    (map offered.Storage d.storage_offers) [] d.storage_offers (none_taken storage_offer_in offered.Offer d.offers (λ x. refl))
    (all_taken storage_offer_in offered.Storage d.storage_offers (λ x. refl))

-- ---- the whole

-- The rows of all sections of a declaration.
abbrev rows_of : Decl → SectionRows
rows_of d = record {
  children = d.children;
  collections = d.collections;
  capabilities = capability_rows d;
  uses = use_rows d;
  offers = offer_rows d;
  exposes = d.exposes;
  environments = d.environments;
}

-- the declaration with these environments and this runner, whose other rows are those of the first
abbrev with_optional : Decl → Option (List ℕ) → List Environment → Decl
with_optional d runner environments = record d { runner = runner; environments = environments }

-- What is written for a readable declaration, with or without what may be left out, gives its rows.
rows_parts : (d : Decl) (runner : Option (List ℕ)) (environments : List Environment) → IsReadable (with_optional d runner environments)
    → section_rows_at (decl_data (with_optional d runner environments)) ≡ Ok (rows_of (with_optional d runner environments))
unfolding serde_json_on_literals children_at section_rows_at
rows_parts d None [] h = rw (children_read_back d.children h.children) (rw (collections_read_back d.collections h.collections) (rw (capabilities_back (with_optional d None []) h) (rw (uses_back (with_optional d None []) h) (rw (offers_back d.children (with_optional d None []) h) (rw (exposes_back d.children (with_optional d None []) h) refl)))))
rows_parts d (Some r) [] h = rw (children_read_back d.children h.children) (rw (collections_read_back d.collections h.collections) (rw (capabilities_back (with_optional d (Some r) []) h) (rw (uses_back (with_optional d (Some r) []) h) (rw (offers_back d.children (with_optional d (Some r) []) h) (rw (exposes_back d.children (with_optional d (Some r) []) h) refl)))))
rows_parts d None (e ∷ es) h = rw (children_read_back d.children h.children) (rw (collections_read_back d.collections h.collections) (rw (capabilities_back (with_optional d None (e ∷ es)) h) (rw (uses_back (with_optional d None (e ∷ es)) h) (rw (offers_back d.children (with_optional d None (e ∷ es)) h) (rw (exposes_back d.children (with_optional d None (e ∷ es)) h) (rw (environments_back (with_optional d None (e ∷ es)) h) refl))))))
rows_parts d (Some r) (e ∷ es) h = rw (children_read_back d.children h.children) (rw (collections_read_back d.collections h.collections) (rw (capabilities_back (with_optional d (Some r) (e ∷ es)) h) (rw (uses_back (with_optional d (Some r) (e ∷ es)) h) (rw (offers_back d.children (with_optional d (Some r) (e ∷ es)) h) (rw (exposes_back d.children (with_optional d (Some r) (e ∷ es)) h) (rw (environments_back (with_optional d (Some r) (e ∷ es)) h) refl))))))

-- What is written for a declaration gives its runner back, where that is a name or none.
runner_parts : (d : Decl) (runner : Option (List ℕ)) (environments : List Environment) → ForSomeOf runner IsName
    → runner_at (decl_data (with_optional d runner environments)) ≡ Ok runner
unfolding serde_json_on_literals name_in_at name_at program_at runner_at
runner_parts d None [] h = refl
runner_parts d None (e ∷ es) h = refl
runner_parts d (Some r) [] h = rw (name_faultless r h) refl
runner_parts d (Some r) (e ∷ es) h = rw (name_faultless r h) refl

-- What is written for a declaration has known sections only.
known_parts : (d : Decl) (runner : Option (List ℕ)) (environments : List Environment)
    → sections_at (decl_data (with_optional d runner environments)) ≡ Ok tt
unfolding serde_json_on_literals sections_at
known_parts d None [] = refl
known_parts d None (e ∷ es) = refl
known_parts d (Some r) [] = refl
known_parts d (Some r) (e ∷ es) = refl

-- A declaration is the one that its runner and its rows make.
same_decl : (d : Decl) → declared_by d.runner (rows_of d) ≡ d
same_decl d =
    rw (capabilities_taken d) (rw (storages_taken d) (rw (uses_taken d) (rw (debug_uses_taken d) (rw (storage_uses_taken d)
    (rw (offers_taken d) (rw (storage_offers_taken d) refl))))))

-- Data with known sections, a runner and rows are read as the declaration that these make.
decl_from : (v : Data) (runner : Option (List ℕ)) (rows : SectionRows) → sections_at v ≡ Ok tt → runner_at v ≡ Ok runner
    → section_rows_at v ≡ Ok rows → decl_at v ≡ Ok (declared_by runner rows)
unfolding decl_at
decl_from v runner rows k r s = rw k (rw r (rw s refl))

-- the value of a readable declaration is read as that declaration
pub reads_back : (d : Decl) → IsReadable d → decl_at (decl_data d) ≡ Ok d
reads_back d h =
    decl_from (decl_data d) d.runner (rows_of d) (known_parts d d.runner d.environments)
    (runner_parts d d.runner d.environments h.runner) (rows_parts d d.runner d.environments h)
    ∙ ap Ok (same_decl d)
