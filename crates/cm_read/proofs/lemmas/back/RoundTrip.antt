-- What is written for a declaration is read back: children and collections, and rows one after another.
use Rattle.std.proofs.Common.{◌≡◌, ℕ, suc, ◌≤◌, List, [], ◌∷◌, ◌++◌, length, map, Bool, true, false, not, nat_lt, nat_le, Option, Some, None, Ok, IsTrue, refl, arith, rules, get_or}
use Rattle.std.specs.Prelude.{position, All}
use Rattle.std.proofs.lemmas.List.Quantifiers.{position-Some}
use Rattle.serde_json.specs.Data.{Data, array}
use Rattle.serde_json.specs.View.{items_of}
use Rattle.cm_names.specs.Name.{IsName, continues_name}
use Rattle.cm_decl.specs.declared.section.Section.{Section}
use Rattle.cm_decl.specs.declared.section.Section.TheVariants as section
use Rattle.cm_decl.specs.declared.rows.Durability.{Durability}
use Rattle.cm_decl.specs.declared.rows.Child.{Child}
use Rattle.cm_decl.specs.declared.rows.Collection.{Collection}
use Rattle.cm_decl.specs.declared.rows.Durability.TheVariants.{Transient, SingleRun}
use Rattle.cm_read.specs.declared.fault.ItemPlace.{ItemPlace}
use Rattle.cm_read.specs.Numbers.{max_rows}
use Rattle.cm_names.specs.Urls.{is_url_text}
use Rattle.cm_names.proofs.lemmas.texts.Name.{name_faultless}
use Rattle.cm_facts.proofs.Lists.{length_cons_zero}
use Rattle.cm_read.specs.Sections.{next, rows_at, section_at}
use Rattle.cm_read.specs.Reading.{ReadResult, start}
use Rattle.cm_read.specs.Items.{child_at, collection_at}
use Rattle.cm_write.specs.Writing.{child_data, collection_data, list_of}
use Rattle.cm_read.specs.Readable.{IsChildRow, IsCollection, AreRows, ForSomeOf}
use Rattle.cm_read.proofs.lemmas.examples.OnLiterals.{read_on_literals}

-- Bytes that all continue a name have no place of one that doesn't.
no_bad_rest : (bs : List ℕ) → All (λ c. IsTrue (continues_name c)) bs → position (λ c. not (continues_name c)) bs ≡ None
no_bad_rest bs h = by (position (λ c. not (continues_name c)) bs) refl
  where
    clash : (b : Bool) → b ≡ true → not b ≡ true → ⊥
    clash true e f = grind (arith, rules)
    clash false e f = grind (arith, rules)

    by : (o : Option ℕ) → position (λ c. not (continues_name c)) bs ≡ o → position (λ c. not (continues_name c)) bs ≡ None
    by None e = e
    by (Some i) e = let f = position-Some (λ c. not (continues_name c)) bs i 0 e in absurd (clash (continues_name (get_or bs i 0)) (h i 0 f.0) f.1)

-- A text of at most 255 bytes isn't found to be longer.
not_long : (t : List ℕ) → length t ≤ 255 → nat_lt 255 (length t) ≡ false
not_long t h = grind (arith, rules)

-- What is written for a child by its parts, where these are right, is read back as that child.
child_parts : (at : ItemPlace) (name url : List ℕ) (eager : Bool) (environment : Option (List ℕ)) → IsName name
    → IsTrue (is_url_text url) → ForSomeOf environment IsName
    → child_at at (child_data (record { name = name; url = url; eager = eager; environment = environment }))
    ≡ Ok (record { name = name; url = url; eager = eager; environment = environment } ∷ [])
unfolding read_on_literals
child_parts at name url true None n u e = rw (name_faultless name n) (rw u refl)
child_parts at name url false None n u e = rw (name_faultless name n) (rw u refl)
child_parts at name url true (Some x) n u e = rw (name_faultless name n) (rw u (rw (name_faultless x e) refl))
child_parts at name url false (Some x) n u e = rw (name_faultless name n) (rw u (rw (name_faultless x e) refl))

-- What is written for a child that an item can be read as is read as that child.
pub child_read_back : (at : ItemPlace) (c : Child) → IsChildRow c → child_at at (child_data c) ≡ Ok (c ∷ [])
child_read_back at c h = child_parts at c.name c.url c.eager c.environment h.name h.url h.environment

-- What is written for a collection by its parts, where these are right, is read back as it.
collection_parts : (at : ItemPlace) (name : List ℕ) (w : Durability) (d : Bool) (environment : Option (List ℕ)) → IsName name
    → ForSomeOf environment IsName
    → collection_at at (collection_data (record { name = name; durability = w; dynamic_offers = d; environment = environment }))
    ≡ Ok (record { name = name; durability = w; dynamic_offers = d; environment = environment } ∷ [])
unfolding read_on_literals
collection_parts at name Transient true None n e = rw (name_faultless name n) refl
collection_parts at name SingleRun true None n e = rw (name_faultless name n) refl
collection_parts at name Transient false None n e = rw (name_faultless name n) refl
collection_parts at name SingleRun false None n e = rw (name_faultless name n) refl
collection_parts at name Transient true (Some x) n e = rw (name_faultless name n) (rw (name_faultless x e) refl)
collection_parts at name SingleRun true (Some x) n e = rw (name_faultless name n) (rw (name_faultless x e) refl)
collection_parts at name Transient false (Some x) n e = rw (name_faultless name n) (rw (name_faultless x e) refl)
collection_parts at name SingleRun false (Some x) n e = rw (name_faultless name n) (rw (name_faultless x e) refl)

-- What is written for a collection that an item can be read as is read as that collection.
pub collection_read_back : (at : ItemPlace) (c : Collection) → IsCollection c → collection_at at (collection_data c) ≡ Ok (c ∷ [])
collection_read_back at c h = collection_parts at c.name c.durability c.dynamic_offers c.environment h.name h.environment

-- A number of at most 16,384 passes the test against that limit.
pub within : (n : ℕ) → n ≤ 16384 → nat_le n 16384 ≡ true
within n le = grind (arith, rules)

-- rows that are read back one by one are read back
pub rows_read_back : {A : Type 0} (read : ItemPlace → Data → ReadResult (List A)) (write : A → Data) (IsRow : A → Type 0) (rows : List A) (at : ItemPlace) → ((at : ItemPlace) (x : A) → IsRow x → read at (write x) ≡ Ok (x ∷ [])) → All IsRow rows → rows_at read at (items_of (map write rows)) ≡ Ok rows
rows_read_back read write IsRow [] at one h = refl
rows_read_back read write IsRow (x ∷ xs) at one h =
    rw (one at x (h 0 x (omega arith))) (rw (rows_read_back read write IsRow xs (next at) one (λ k d lt. h (suc k) d (omega arith))) refl)

-- rows of one kind, each of which is read back as a row of a section with several kinds, and what stands behind them
pub rows_before : {A R : Type 0} (read : ItemPlace → Data → ReadResult (List R)) (write : A → Data) (wrap : A → R) (IsRow : A → Type 0)
    (rows : List A) (rest : List Data) (others : List R) (at : ItemPlace)
    → ((at : ItemPlace) (x : A) → IsRow x → read at (write x) ≡ Ok (wrap x ∷ [])) → All IsRow rows
    → ((at : ItemPlace) → rows_at read at (items_of rest) ≡ Ok others)
    → rows_at read at (items_of (map write rows ++ rest)) ≡ Ok (map wrap rows ++ others)
rows_before read write wrap IsRow [] rest others at one h behind = behind at
rows_before read write wrap IsRow (x ∷ xs) rest others at one h behind =
    rw (one at x (h 0 x (omega arith)))
    (rw (rows_before read write wrap IsRow xs rest others (next at) one (λ k d lt. h (suc k) d (omega arith)) behind) refl)

-- The rows that are written last are read back as those rows.
pub rows_last : {A R : Type 0} (read : ItemPlace → Data → ReadResult (List R)) (write : A → Data) (wrap : A → R) (IsRow : A → Type 0)
    (rows : List A) (at : ItemPlace) → ((at : ItemPlace) (x : A) → IsRow x → read at (write x) ≡ Ok (wrap x ∷ [])) → All IsRow rows
    → rows_at read at (items_of (map write rows)) ≡ Ok (map wrap rows)
rows_last read write wrap IsRow [] at one h = refl
rows_last read write wrap IsRow (x ∷ xs) at one h =
    rw (one at x (h 0 x (omega arith)))
    (rw (rows_last read write wrap IsRow xs (next at) one (λ k d lt. h (suc k) d (omega arith))) refl)

-- a section whose items are read as that many rows
pub section_of_items : {R : Type 0} (read : ItemPlace → Data → ReadResult (List R)) (s : Section) (items : List Data) (rows : List R)
    → rows_at read (start s) (items_of items) ≡ Ok rows → length rows ≤ max_rows
    → section_at read s (Some (array (items_of items))) ≡ Ok rows
section_of_items read s items rows e few = rw e (rw (within (length rows) few) refl)

-- What is written for rows within the limit is read as them, where each row's item is read as it.
pub section_read_back : {A : Type 0} (read : ItemPlace → Data → ReadResult (List A)) (write : A → Data) (IsRow : A → Type 0) (rows : List A) (s : Section) → ((at : ItemPlace) (x : A) → IsRow x → read at (write x) ≡ Ok (x ∷ [])) → AreRows IsRow rows → section_at read s (Some (list_of write rows)) ≡ Ok rows
section_read_back read write IsRow rows s one h =
    let few : nat_le (length rows) 16384 ≡ true = within (length rows) h.limit in
    rw (rows_read_back read write IsRow rows (start s) one h.each) (rw few refl)

-- What is written for children that the section can be read as is read as these children.
pub children_read_back : (rows : List Child) → AreRows IsChildRow rows → section_at child_at section.Children (Some (list_of child_data rows)) ≡ Ok rows
children_read_back rows h = section_read_back child_at child_data IsChildRow rows section.Children child_read_back h

-- What is written for collections that the section can be read as is read as these collections.
pub collections_read_back : (rows : List Collection) → AreRows IsCollection rows → section_at collection_at section.Collections (Some (list_of collection_data rows)) ≡ Ok rows
collections_read_back rows h = section_read_back collection_at collection_data IsCollection rows section.Collections collection_read_back h
