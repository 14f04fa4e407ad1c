-- The text of a declaration is read back.
use Rattle.std.proofs.Common.{◌≡◌, ℕ, suc, Bool, List, [], ◌∷◌, ◌++◌, map, codes, Option, Some, None, option_and_then, refl, sym, ap, ◌∙◌, arith, append-nil}
use Rattle.json.specs.Token.{Token}
use Rattle.json.specs.Lex.{tokens}
use Rattle.json.specs.Json as json
use Rattle.json.specs.Tree as tree
use Rattle.json.specs.Tree.{json_tokens}
use Rattle.json.proofs.Printed.Tokens.{tokens-print}
use Rattle.json.proofs.Printed.Trees.{ArePrintable-json_tokens, value-json_tokens}
use Rattle.serde_json.specs.Data.{Data, null, boolean, number, string, array, object, Items, no_items, item, Members, no_members, member, depth, items_depth, members_depth}
use Rattle.serde_json.specs.Read.{read, of_json, of_items, max_depth}
use Rattle.serde_json.specs.Written.{outline, items_outline, members_outline}
use Rattle.serde_json.specs.View.{items_of}
use Rattle.serde_json.proofs.Texts.{print-outline}
use Rattle.cm_names.specs.Rights.{RightSet, words_of}
use Rattle.cm_names.specs.declared.dependency.Dependency.{Dependency}
use Rattle.cm_names.specs.declared.availability.Availability.{Availability}
use Rattle.cm_decl.specs.declared.kind.Kind.{Kind}
use Rattle.cm_decl.specs.declared.kind.Kind.TheVariants as kind
use Rattle.cm_decl.specs.declared.origin.Origin.{Origin}
use Rattle.cm_decl.specs.declared.rows.Child.{Child}
use Rattle.cm_decl.specs.declared.rows.Collection.{Collection}
use Rattle.cm_decl.specs.declared.rows.Capability.{Capability}
use Rattle.cm_decl.specs.declared.rows.Usage.{Usage}
use Rattle.cm_decl.specs.declared.rows.Give.{Give}
use Rattle.cm_decl.specs.declared.rows.Offer.{Offer}
use Rattle.cm_decl.specs.declared.rows.Durability.{Durability}
use Rattle.cm_decl.specs.declared.decl.Decl.{Decl}
use Rattle.cm_read.specs.Manifest.{of_data}
use Rattle.cm_decl.specs.declared.environment.Registration.{Registration}
use Rattle.cm_decl.specs.declared.environment.Environment.{Environment}
use Rattle.cm_decl.specs.declared.environment.DebugUse.{DebugUse}
use Rattle.cm_decl.specs.declared.storage.Storage.{Storage}
use Rattle.cm_decl.specs.declared.storage.StorageUse.{StorageUse}
use Rattle.cm_decl.specs.declared.storage.StorageOffer.{StorageOffer}
use Rattle.cm_write.specs.Writing.{child_data, collection_data, capability_data, use_data, offer_data}
use Rattle.cm_write.specs.Writing.{expose_data, storage_data, debug_use_data, storage_use_data}
use Rattle.cm_write.specs.Writing.{storage_offer_data, registration_data, environment_data, capability_items}
use Rattle.cm_write.specs.Writing.{use_items, offer_items, decl_data, decl_text}
use Rattle.cm_read.specs.ReadableInside.{TextsAreReadBack}
use Rattle.cm_read.proofs.lemmas.back.DeclBack.{reads_back}
use Rattle.cm_read.proofs.lemmas.back.Pair.{decl_has_numbers, decl_is_shallow}

-- ---- an outline nests as deep as its value

mutual
  -- The outline of data is as deep as the data.
  outline_depth : (d : Data) → tree.depth (outline d) ≡ depth d
  outline_depth null = refl
  outline_depth (boolean b) = refl
  outline_depth (number n) = refl
  outline_depth (string s) = refl
  outline_depth (array ds) = ap suc (items_outline_depth ds)
  outline_depth (object ms) = ap suc (members_outline_depth ms)

  -- The outline of items is as deep as the items.
  items_outline_depth : (ds : Items) → tree.items_depth (items_outline ds) ≡ items_depth ds
  items_outline_depth no_items = refl
  items_outline_depth (item d ds) = rw (outline_depth d, items_outline_depth ds) refl

  -- The outline of members is as deep as the members.
  members_outline_depth : (ms : Members) → tree.members_depth (members_outline ms) ≡ members_depth ms
  members_outline_depth no_members = refl
  members_outline_depth (member k d ms) = rw (outline_depth d, members_outline_depth ms) refl

-- ---- an outline is read as its value

-- the members stand in order, so putting them in one after another leaves them
abbrev IsStable : Data → Type 0
IsStable d = of_json (outline d) ≡ Some d

-- Texts as items are what their outline stands for.
texts_stable : (ts : List (List ℕ)) → of_items (items_outline (items_of (map string ts))) ≡ Some (items_of (map string ts))
texts_stable [] = refl
texts_stable (t ∷ ts) = rw (texts_stable ts) refl

-- What is written for a list is what its outline stands for, where that is so of each item.
rows_stable : {A : Type 0} (write : A → Data) (xs : List A) → ((x : A) → IsStable (write x)) → of_items (items_outline (items_of (map write xs))) ≡ Some (items_of (map write xs))
rows_stable write [] h = refl
rows_stable write (x ∷ xs) h = rw (h x) (rw (rows_stable write xs h) refl)

-- rows of one kind, and what stands behind them
rows_before : {A : Type 0} (write : A → Data) (xs : List A) (rest : List Data) → ((x : A) → IsStable (write x))
    → of_items (items_outline (items_of rest)) ≡ Some (items_of rest)
    → of_items (items_outline (items_of (map write xs ++ rest))) ≡ Some (items_of (map write xs ++ rest))
rows_before write [] rest h behind = behind
rows_before write (x ∷ xs) rest h behind = rw (h x) (rw (rows_before write xs rest h behind) refl)

-- The data written for a child's parts are what their outline stands for.
child_parts : (name url : List ℕ) (eager : Bool) (environment : Option (List ℕ))
    → IsStable (child_data (record { name = name; url = url; eager = eager; environment = environment }))
child_parts name url eager None = refl
child_parts name url eager (Some e) = refl

-- The data written for a child are what their outline stands for.
child_stable : (c : Child) → IsStable (child_data c)
child_stable c = child_parts c.name c.url c.eager c.environment

-- The data written for a collection's parts are what their outline stands for.
collection_parts : (name : List ℕ) (durability : Durability) (dynamic_offers : Bool) (environment : Option (List ℕ))
    → IsStable (collection_data (record { name = name; durability = durability; dynamic_offers = dynamic_offers; environment = environment }))
collection_parts name durability dynamic_offers None = refl
collection_parts name durability dynamic_offers (Some e) = refl

-- The data written for a collection are what their outline stands for.
collection_stable : (c : Collection) → IsStable (collection_data c)
collection_stable c = collection_parts c.name c.durability c.dynamic_offers c.environment

-- The data written for a storage's parts are what their outline stands for.
storage_parts : (name : List ℕ) (from : Origin) (backing : List ℕ) (subdir : Option (List ℕ)) (by_moniker : Bool)
    → IsStable (storage_data (record { name = name; from = from; backing = backing; subdir = subdir; by_moniker = by_moniker }))
storage_parts name from backing None by_moniker = refl
storage_parts name from backing (Some y) by_moniker = refl

-- The data written for a storage are what their outline stands for.
storage_stable : (s : Storage) → IsStable (storage_data s)
storage_stable s = storage_parts s.name s.from s.backing s.subdir s.by_moniker

-- The data written for a debug use are what their outline stands for.
debug_use_stable : (u : DebugUse) → IsStable (debug_use_data u)
debug_use_stable u = refl

-- The data written for a storage use are what their outline stands for.
storage_use_stable : (u : StorageUse) → IsStable (storage_use_data u)
storage_use_stable u = refl

-- The data written for a storage offer are what their outline stands for.
storage_offer_stable : (o : StorageOffer) → IsStable (storage_offer_data o)
storage_offer_stable o = refl

-- The data written for a runner's registration are what their outline stands for.
runner_stable : (r : Registration) → IsStable (registration_data (codes "runner") r)
runner_stable r = refl

-- The data written for a debug registration are what their outline stands for.
debug_stable : (r : Registration) → IsStable (registration_data (codes "protocol") r)
debug_stable r = refl

-- The data written for an environment are what their outline stands for.
environment_stable : (e : Environment) → IsStable (environment_data e)
environment_stable e =
    rw (rows_stable (registration_data (codes "runner")) e.runners runner_stable)
    (rw (rows_stable (registration_data (codes "protocol")) e.debug debug_stable) refl)

-- The data written for a capability's parts are what their outline stands for.
capability_parts : (k : Kind) (name path : List ℕ) (rights : Option RightSet) → IsStable (capability_data (record { kind = k; name = name; path = path; rights = rights }))
capability_parts kind.Protocol name path None = refl
capability_parts kind.Protocol name path (Some x) = rw (texts_stable (words_of x)) refl
capability_parts kind.Directory name path None = refl
capability_parts kind.Directory name path (Some x) = rw (texts_stable (words_of x)) refl

-- The data written for a capability are what their outline stands for.
capability_stable : (c : Capability) → IsStable (capability_data c)
capability_stable c = capability_parts c.kind c.name c.path c.rights

-- The data written for a use's parts are what their outline stands for.
use_parts : (k : Kind) (name : List ℕ) (from : Origin) (path : List ℕ) (rights : Option RightSet) (subdir : Option (List ℕ)) (d : Dependency) (a : Availability) → IsStable (use_data (record { kind = k; name = name; from = from; path = path; rights = rights; subdir = subdir; dependency = d; availability = a }))
use_parts kind.Protocol name from path None None d a = refl
use_parts kind.Protocol name from path None (Some y) d a = refl
use_parts kind.Protocol name from path (Some x) None d a = rw (texts_stable (words_of x)) refl
use_parts kind.Protocol name from path (Some x) (Some y) d a = rw (texts_stable (words_of x)) refl
use_parts kind.Directory name from path None None d a = refl
use_parts kind.Directory name from path None (Some y) d a = refl
use_parts kind.Directory name from path (Some x) None d a = rw (texts_stable (words_of x)) refl
use_parts kind.Directory name from path (Some x) (Some y) d a = rw (texts_stable (words_of x)) refl

-- The data written for a use are what their outline stands for.
use_stable : (u : Usage) → IsStable (use_data u)
use_stable u = use_parts u.kind u.name u.from u.path u.rights u.subdir u.dependency u.availability

-- The data written for an offer's parts are what their outline stands for.
offer_parts : (k : Kind) (to name : List ℕ) (from : Origin) (target : List ℕ) (rights : Option RightSet) (subdir : Option (List ℕ)) (d : Dependency) (a : Availability) → IsStable (offer_data (record { to = to; give = record { kind = k; source_name = name; from = from; target_name = target; rights = rights; subdir = subdir; dependency = d; availability = a } }))
offer_parts kind.Protocol to name from target None None d a = refl
offer_parts kind.Protocol to name from target None (Some y) d a = refl
offer_parts kind.Protocol to name from target (Some x) None d a = rw (texts_stable (words_of x)) refl
offer_parts kind.Protocol to name from target (Some x) (Some y) d a = rw (texts_stable (words_of x)) refl
offer_parts kind.Directory to name from target None None d a = refl
offer_parts kind.Directory to name from target None (Some y) d a = refl
offer_parts kind.Directory to name from target (Some x) None d a = rw (texts_stable (words_of x)) refl
offer_parts kind.Directory to name from target (Some x) (Some y) d a = rw (texts_stable (words_of x)) refl

-- The data written for an offer are what their outline stands for.
offer_stable : (o : Offer) → IsStable (offer_data o)
offer_stable o =
    offer_parts o.give.kind o.to o.give.source_name o.give.from o.give.target_name o.give.rights o.give.subdir o.give.dependency o.give.availability

-- The data written for an expose's parts are what their outline stands for.
expose_parts : (k : Kind) (name : List ℕ) (from : Origin) (target : List ℕ) (rights : Option RightSet) (subdir : Option (List ℕ)) (d : Dependency) (a : Availability) → IsStable (expose_data (record { kind = k; source_name = name; from = from; target_name = target; rights = rights; subdir = subdir; dependency = d; availability = a }))
expose_parts kind.Protocol name from target None None d a = refl
expose_parts kind.Protocol name from target None (Some y) d a = refl
expose_parts kind.Protocol name from target (Some x) None d a = rw (texts_stable (words_of x)) refl
expose_parts kind.Protocol name from target (Some x) (Some y) d a = rw (texts_stable (words_of x)) refl
expose_parts kind.Directory name from target None None d a = refl
expose_parts kind.Directory name from target None (Some y) d a = refl
expose_parts kind.Directory name from target (Some x) None d a = rw (texts_stable (words_of x)) refl
expose_parts kind.Directory name from target (Some x) (Some y) d a = rw (texts_stable (words_of x)) refl

-- The data written for an expose are what their outline stands for.
expose_stable : (g : Give) → IsStable (expose_data g)
expose_stable g = expose_parts g.kind g.source_name g.from g.target_name g.rights g.subdir g.dependency g.availability

-- values one after another that are each read as themselves
abbrev AreStable : List Data → Type 0
AreStable ds = of_items (items_outline (items_of ds)) ≡ Some (items_of ds)

-- The items written for a declaration's capabilities are what their outlines stand for.
capabilities_stable : (d : Decl) → AreStable (capability_items d)
capabilities_stable d =
    rows_before capability_data d.capabilities (map storage_data d.storages) capability_stable
    (rows_stable storage_data d.storages storage_stable)

-- The items written for a declaration's uses are what their outlines stand for.
uses_stable : (d : Decl) → AreStable (use_items d)
uses_stable d =
    rows_before use_data d.uses (map debug_use_data d.debug_uses ++ map storage_use_data d.storage_uses) use_stable
    (rows_before debug_use_data d.debug_uses (map storage_use_data d.storage_uses) debug_use_stable
    (rows_stable storage_use_data d.storage_uses storage_use_stable))

-- The items written for a declaration's offers are what their outlines stand for.
offers_stable : (d : Decl) → AreStable (offer_items d)
offers_stable d =
    rows_before offer_data d.offers (map storage_offer_data d.storage_offers) offer_stable
    (rows_stable storage_offer_data d.storage_offers storage_offer_stable)

-- the declaration with these environments and this runner, whose other rows are those of the first
abbrev with_optional : Decl → Option (List ℕ) → List Environment → Decl
with_optional d runner environments = record d { runner = runner; environments = environments }

-- The data of a declaration, with or without what may be left out, are what their outline stands for.
decl_parts : (d : Decl) (runner : Option (List ℕ)) (environments : List Environment)
    → IsStable (decl_data (with_optional d runner environments))
decl_parts d None [] =
    rw (rows_stable child_data d.children child_stable) (rw (rows_stable collection_data d.collections collection_stable)
    (rw (capabilities_stable d) (rw (uses_stable d) (rw (offers_stable d) (rw (rows_stable expose_data d.exposes expose_stable) refl)))))
decl_parts d (Some r) [] =
    rw (rows_stable child_data d.children child_stable) (rw (rows_stable collection_data d.collections collection_stable)
    (rw (capabilities_stable d) (rw (uses_stable d) (rw (offers_stable d) (rw (rows_stable expose_data d.exposes expose_stable) refl)))))
decl_parts d None (e ∷ es) =
    rw (rows_stable child_data d.children child_stable) (rw (rows_stable collection_data d.collections collection_stable)
    (rw (capabilities_stable d) (rw (uses_stable d) (rw (offers_stable d) (rw (rows_stable expose_data d.exposes expose_stable)
    (rw (environment_stable e) (rw (rows_stable environment_data es environment_stable) refl)))))))
decl_parts d (Some r) (e ∷ es) =
    rw (rows_stable child_data d.children child_stable) (rw (rows_stable collection_data d.collections collection_stable)
    (rw (capabilities_stable d) (rw (uses_stable d) (rw (offers_stable d) (rw (rows_stable expose_data d.exposes expose_stable)
    (rw (environment_stable e) (rw (rows_stable environment_data es environment_stable) refl)))))))

-- The data written for a declaration are what their outline stands for.
decl_stable : (d : Decl) → IsStable (decl_data d)
decl_stable d = decl_parts d d.runner d.environments

-- ---- the text

-- the value of the JSON that was read, where no token is left
abbrev whole : Option (json.Json × List Token) → Option Data
whole o = option_and_then of_json (option_and_then (λ p. json.if_last p.0 p.1) o)

-- the text of a declaration is read as the value of the declaration
text_is_read : (d : Decl) → read (decl_text d) ≡ Some (decl_data d)
text_is_read d =
    let j : json.Json = outline (decl_data d) in
    let written : tokens (decl_text d) ≡ json_tokens j =
    ap tokens (sym (print-outline (decl_data d))) ∙ tokens-print (json_tokens j) (ArePrintable-json_tokens j (decl_has_numbers d)) in
    ap whole (ap (json.value max_depth) (written ∙ sym (append-nil (json_tokens j))) ∙ value-json_tokens j max_depth [] (omega (arith, outline_depth (decl_data d), decl_is_shallow d)))
    ∙ decl_stable d

-- The text of a readable declaration is read as that declaration.
pub texts_are_read_back_lem : TextsAreReadBack
texts_are_read_back_lem d h = ap of_data (text_is_read d) ∙ reads_back d h
