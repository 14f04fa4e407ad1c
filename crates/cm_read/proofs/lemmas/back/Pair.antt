-- Objects that are made of pairs, and that no value of a declaration nests deep or has a float.
use Rattle.std.proofs.Common.{◌≡◌, ℕ, suc, max, ◌≤◌, List, [], ◌∷◌, ◌++◌, map, codes, false, Option, Some, None, Ok, Less, Equal, Greater, nat_cmp, refl, sym, ap, subst, ◌∙◌, arith, rules}
use Rattle.std.proofs.Math.Nat.{le-max_left, le-max_right, max-le}
use Rattle.std.specs.Cmp.Lexicographic.{slice_cmp}
use Rattle.std.specs.Ordering.{match_ordering}
use Rattle.serde_json.specs.Data.{Data, string, array, Items, Members, no_members, member, put, depth, items_depth, members_depth}
use Rattle.json.specs.Tree.{HasNumbers, ItemsHaveNumbers, MembersHaveNumbers}
use Rattle.serde_json.specs.Written.{compact_text, has_float, items_have_float, members_have_float, outline, items_outline, members_outline}
use Rattle.serde_json.specs.View.{items_of}
use Rattle.serde_json.specs.Read as json
use Rattle.serde_json.specs.Read.{max_depth}
use Rattle.cm_names.specs.Rights.{RightSet, words_of}
use Rattle.cm_facts.proofs.Booleans.{or_false_first, or_false_second}
use Rattle.cm_decl.specs.declared.rows.Child.{Child}
use Rattle.cm_decl.specs.declared.rows.Collection.{Collection}
use Rattle.cm_decl.specs.declared.rows.Capability.{Capability}
use Rattle.cm_decl.specs.declared.rows.Usage.{Usage}
use Rattle.cm_decl.specs.declared.rows.Give.{Give}
use Rattle.cm_decl.specs.declared.rows.Offer.{Offer}
use Rattle.cm_decl.specs.declared.decl.Decl.{Decl}
use Rattle.cm_read.specs.Manifest.{of_data, decl_of_json}
use Rattle.cm_decl.specs.declared.environment.Registration.{Registration}
use Rattle.cm_decl.specs.declared.environment.Environment.{Environment}
use Rattle.cm_decl.specs.declared.environment.DebugUse.{DebugUse}
use Rattle.cm_decl.specs.declared.storage.Storage.{Storage}
use Rattle.cm_decl.specs.declared.storage.StorageUse.{StorageUse}
use Rattle.cm_decl.specs.declared.storage.StorageOffer.{StorageOffer}
use Rattle.cm_write.specs.Writing.{Pairs, with_pairs, object_of, list_of, rights_pair, subdir_pair, program_pair}
use Rattle.cm_write.specs.Writing.{environment_pair, environments_pair, child_pairs, collection_pairs}
use Rattle.cm_write.specs.Writing.{capability_pairs, use_pairs, give_pairs, offer_pairs, runner_pairs, decl_pairs}
use Rattle.cm_write.specs.Writing.{storage_pairs, debug_use_pairs, storage_use_pairs, storage_offer_pairs}
use Rattle.cm_write.specs.Writing.{registration_pairs, registration_data, environment_pairs, child_data}
use Rattle.cm_write.specs.Writing.{collection_data, capability_data, use_data, offer_data, expose_data}
use Rattle.cm_write.specs.Writing.{storage_data, debug_use_data, storage_use_data, storage_offer_data}
use Rattle.cm_write.specs.Writing.{environment_data, capability_items, use_items, offer_items, decl_data}
use Rattle.cm_write.specs.Writing.{decl_text}
use Rattle.cm_read.specs.Readable.{IsReadable}
use Rattle.cm_read.proofs.lemmas.back.DeclBack.{reads_back}

-- ---- no float, and not deep

-- a value with no float, whose numbers have texts, and that nests at most n deep
record IsPlain (n : ℕ) (d : Data) : Type 0 where
  no_float : has_float d ≡ false
  numbers : HasNumbers (outline d)
  shallow : depth d ≤ n

-- items of such values
record AreItems (n : ℕ) (ds : Items) : Type 0 where
  no_float : items_have_float ds ≡ false
  numbers : ItemsHaveNumbers (items_outline ds)
  shallow : items_depth ds ≤ n

-- members of such values
record AreMembers (n : ℕ) (ms : Members) : Type 0 where
  no_float : members_have_float ms ≡ false
  numbers : MembersHaveNumbers (members_outline ms)
  shallow : members_depth ms ≤ n

-- pairs of such values
abbrev ArePairs : ℕ → Pairs → Type 0
ArePairs n [] = Unit {0}
ArePairs n (p ∷ ps) = IsPlain n p.1 × ArePairs n ps

-- Where the greater of two numbers is within a bound, the first is.
first_within : (a b n : ℕ) → max a b ≤ n → a ≤ n
first_within a b n h = omega (arith, le-max_left a b, h)

-- Where the greater of two numbers is within a bound, the second is.
second_within : (a b n : ℕ) → max a b ≤ n → b ≤ n
second_within a b n h = omega (arith, le-max_right a b, h)

-- A string is plain at any depth.
string_plain : (n : ℕ) (t : List ℕ) → IsPlain n (string t)
string_plain n t = record { no_float = refl; numbers = tt; shallow = omega arith }

-- A plain value before plain members, under a key, makes plain members.
member_plain : (n : ℕ) (k : List ℕ) (d : Data) (ms : Members) → IsPlain n d → AreMembers n ms → AreMembers n (member k d ms)
member_plain n k d ms p q = record { no_float = rw (p.no_float, q.no_float) refl; numbers = (p.numbers, q.numbers); shallow = max-le p.shallow q.shallow }

-- The first of plain members is plain.
first_plain : (n : ℕ) (k : List ℕ) (d : Data) (ms : Members) → AreMembers n (member k d ms) → IsPlain n d
first_plain n k d ms q =
    record { no_float = or_false_first (has_float d) (members_have_float ms) q.no_float; numbers = q.numbers.0; shallow = first_within (depth d) (members_depth ms) n q.shallow }

-- The rest of plain members are plain.
rest_plain : (n : ℕ) (k : List ℕ) (d : Data) (ms : Members) → AreMembers n (member k d ms) → AreMembers n ms
rest_plain n k d ms q =
    record { no_float = or_false_second (has_float d) (members_have_float ms) q.no_float; numbers = q.numbers.1; shallow = second_within (depth d) (members_depth ms) n q.shallow }

-- Plain members with a plain value put among them are plain.
put_plain : (n : ℕ) (k : List ℕ) (d : Data) (ms : Members) → IsPlain n d → AreMembers n ms → AreMembers n (put k d ms)
put_plain n k d no_members p q = member_plain n k d no_members p q
put_plain n k d (member l e ms) p q =
    elim (slice_cmp nat_cmp k l) as (λ o. AreMembers n (match_ordering o (member k d (member l e ms)) (member l d ms) (member l e (put k d ms)))) [
      | Less ↦ member_plain n k d (member l e ms) p q
      | Equal ↦ member_plain n l d ms p (rest_plain n l e ms q)
      | Greater ↦ member_plain n l e (put k d ms) (first_plain n l e ms q) (put_plain n k d ms p (rest_plain n l e ms q))
    ]

-- Plain members with plain pairs put among them are plain.
with_plain : (n : ℕ) (ms : Members) (ps : Pairs) → AreMembers n ms → ArePairs n ps → AreMembers n (with_pairs ms ps)
with_plain n ms [] q h = q
with_plain n ms (p ∷ ps) q h = with_plain n (put p.0 p.1 ms) ps (put_plain n p.0 p.1 ms h.0 q) h.1

-- An object of plain pairs is plain, one level deeper.
object_plain : (n : ℕ) (ps : Pairs) → ArePairs n ps → IsPlain (suc n) (object_of ps)
object_plain n ps h =
    let all : AreMembers n (with_pairs no_members ps) = with_plain n no_members ps (record { no_float = refl; numbers = tt; shallow = omega arith }) h in
    record { no_float = all.no_float; numbers = all.numbers; shallow = omega (arith, all.shallow) }

-- Items that are written plain for each of a list are plain.
items_plain : {A : Type 0} (n : ℕ) (write : A → Data) (xs : List A) → ((x : A) → IsPlain n (write x)) → AreItems n (items_of (map write xs))
items_plain n write [] h = record { no_float = refl; numbers = tt; shallow = omega arith }
items_plain n write (x ∷ xs) h =
    let first : IsPlain n (write x) = h x in
    let others : AreItems n (items_of (map write xs)) = items_plain n write xs h in
    record { no_float = rw (first.no_float, others.no_float) refl; numbers = (first.numbers, others.numbers); shallow = max-le first.shallow others.shallow }

-- rows of one kind, and what stands behind them
items_before : {A : Type 0} (n : ℕ) (write : A → Data) (xs : List A) (rest : List Data) → ((x : A) → IsPlain n (write x))
    → AreItems n (items_of rest) → AreItems n (items_of (map write xs ++ rest))
items_before n write [] rest h behind = behind
items_before n write (x ∷ xs) rest h behind =
    let first : IsPlain n (write x) = h x in
    let others : AreItems n (items_of (map write xs ++ rest)) = items_before n write xs rest h behind in
    record { no_float = rw (first.no_float, others.no_float) refl; numbers = (first.numbers, others.numbers); shallow = max-le first.shallow others.shallow }

-- An array of plain items is plain, one level deeper.
array_plain : (n : ℕ) (ds : Items) → AreItems n ds → IsPlain (suc n) (array ds)
array_plain n ds all = record { no_float = all.no_float; numbers = all.numbers; shallow = omega (arith, all.shallow) }

-- The array written for a list is plain, one level deeper, where each of its items is.
list_plain : {A : Type 0} (n : ℕ) (write : A → Data) (xs : List A) → ((x : A) → IsPlain n (write x)) → IsPlain (suc n) (list_of write xs)
list_plain n write xs h = array_plain n (items_of (map write xs)) (items_plain n write xs h)

-- Plain pairs and further plain pairs are plain.
both_plain : (n : ℕ) (ps qs : Pairs) → ArePairs n ps → ArePairs n qs → ArePairs n (ps ++ qs)
both_plain n [] qs h g = g
both_plain n (p ∷ ps) qs h g = (h.0, both_plain n ps qs h.1 g)

-- ---- declarations

-- The pair of rights that may be given is plain.
rights_plain : (rights : Option RightSet) → ArePairs 2 (rights_pair rights)
rights_plain None = tt
rights_plain (Some rights) = (list_plain 1 string (words_of rights) (string_plain 1), tt)

-- The pair of a subdirectory that may be given is plain.
subdir_plain : (subdir : Option (List ℕ)) → ArePairs 2 (subdir_pair subdir)
subdir_plain None = tt
subdir_plain (Some subdir) = (string_plain 2 subdir, tt)

-- The pair of an environment's name that may be given is plain.
environment_name_plain : (environment : Option (List ℕ)) → ArePairs 2 (environment_pair environment)
environment_name_plain None = tt
environment_name_plain (Some name) = (string_plain 2 _, tt)

-- The pairs of rights and a subdirectory that may be given are plain.
limits_plain : (rights : Option RightSet) (subdir : Option (List ℕ)) → ArePairs 2 (rights_pair rights ++ subdir_pair subdir)
limits_plain rights subdir = both_plain 2 (rights_pair rights) (subdir_pair subdir) (rights_plain rights) (subdir_plain subdir)

-- The data written for a child are plain.
child_plain : (c : Child) → IsPlain 3 (child_data c)
child_plain c = object_plain 2 (child_pairs c) (string_plain 2 _, (string_plain 2 _, (string_plain 2 _, environment_name_plain c.environment)))

-- The data written for a collection are plain.
collection_plain : (c : Collection) → IsPlain 3 (collection_data c)
collection_plain c =
    object_plain 2 (collection_pairs c) (string_plain 2 _, (string_plain 2 _, (string_plain 2 _, environment_name_plain c.environment)))

-- The data written for a capability are plain.
capability_plain : (c : Capability) → IsPlain 3 (capability_data c)
capability_plain c = object_plain 2 (capability_pairs c) (string_plain 2 _, (string_plain 2 _, rights_plain c.rights))

-- The data written for a storage are plain.
storage_plain : (s : Storage) → IsPlain 3 (storage_data s)
storage_plain s =
    object_plain 2 (storage_pairs s) (string_plain 2 _, (string_plain 2 _, (string_plain 2 _, (string_plain 2 _, subdir_plain s.subdir))))

-- The data written for a use are plain.
use_plain : (u : Usage) → IsPlain 3 (use_data u)
use_plain u =
    object_plain 2 (use_pairs u) (string_plain 2 _, (string_plain 2 _, (string_plain 2 _, (string_plain 2 _, (string_plain 2 _, limits_plain u.rights u.subdir)))))

-- The data written for a debug use are plain.
debug_use_plain : (u : DebugUse) → IsPlain 3 (debug_use_data u)
debug_use_plain u = object_plain 2 (debug_use_pairs u) (string_plain 2 _, (string_plain 2 _, (string_plain 2 _, tt)))

-- The data written for a storage use are plain.
storage_use_plain : (u : StorageUse) → IsPlain 3 (storage_use_data u)
storage_use_plain u = object_plain 2 (storage_use_pairs u) (string_plain 2 _, (string_plain 2 _, (string_plain 2 _, tt)))

-- The pairs written for what is given are plain.
give_plain : (g : Give) → ArePairs 2 (give_pairs g)
give_plain g = (string_plain 2 _, (string_plain 2 _, (string_plain 2 _, (string_plain 2 _, limits_plain g.rights g.subdir))))

-- The data written for an offer are plain.
offer_plain : (o : Offer) → IsPlain 3 (offer_data o)
offer_plain o = object_plain 2 (offer_pairs o) (string_plain 2 _, (string_plain 2 _, give_plain o.give))

-- The data written for a storage offer are plain.
storage_offer_plain : (o : StorageOffer) → IsPlain 3 (storage_offer_data o)
storage_offer_plain o =
    object_plain 2 (storage_offer_pairs o) (string_plain 2 _, (string_plain 2 _, (string_plain 2 _, (string_plain 2 _, tt))))

-- The data written for an expose are plain.
expose_plain : (g : Give) → IsPlain 3 (expose_data g)
expose_plain g = object_plain 2 (give_pairs g) (give_plain g)

-- The data written for a registration are plain.
registration_plain : (key : List ℕ) (r : Registration) → IsPlain 1 (registration_data key r)
registration_plain key r = object_plain 0 (registration_pairs key r) (string_plain 0 _, (string_plain 0 _, (string_plain 0 _, tt)))

-- The data written for an environment are plain.
environment_plain : (e : Environment) → IsPlain 3 (environment_data e)
environment_plain e =
    object_plain 2 (environment_pairs e) (
      string_plain 2 _,
      (
        string_plain 2 _,
        (
          list_plain 1 (registration_data (codes "runner")) e.runners (registration_plain (codes "runner")),
          (list_plain 1 (registration_data (codes "protocol")) e.debug (registration_plain (codes "protocol")), tt),
        ),
      ),
    )

-- The pair of a program that may be given is plain.
program_plain : (runner : Option (List ℕ)) → ArePairs 4 (program_pair runner)
program_plain None = tt
program_plain (Some runner) = (object_plain 3 (runner_pairs runner) (string_plain 3 runner, tt), tt)

-- The pair of environments that may be given is plain.
environments_plain : (es : List Environment) → ArePairs 4 (environments_pair es)
environments_plain [] = tt
environments_plain (e ∷ es) = (list_plain 3 environment_data (e ∷ es) environment_plain, tt)

-- The array written for a declaration's capabilities is plain.
capabilities_plain : (d : Decl) → IsPlain 4 (array (items_of (capability_items d)))
capabilities_plain d =
    array_plain 3 (items_of (capability_items d))
    (items_before 3 capability_data d.capabilities (map storage_data d.storages) capability_plain
    (items_plain 3 storage_data d.storages storage_plain))

-- The array written for a declaration's uses is plain.
uses_plain : (d : Decl) → IsPlain 4 (array (items_of (use_items d)))
uses_plain d =
    array_plain 3 (items_of (use_items d))
    (items_before 3 use_data d.uses (map debug_use_data d.debug_uses ++ map storage_use_data d.storage_uses) use_plain
    (items_before 3 debug_use_data d.debug_uses (map storage_use_data d.storage_uses) debug_use_plain
    (items_plain 3 storage_use_data d.storage_uses storage_use_plain)))

-- The array written for a declaration's offers is plain.
offers_plain : (d : Decl) → IsPlain 4 (array (items_of (offer_items d)))
offers_plain d =
    array_plain 3 (items_of (offer_items d))
    (items_before 3 offer_data d.offers (map storage_offer_data d.storage_offers) offer_plain
    (items_plain 3 storage_offer_data d.storage_offers storage_offer_plain))

-- The data written for a declaration are plain, and at most five levels deep.
decl_plain : (d : Decl) → IsPlain 5 (decl_data d)
decl_plain d =
    object_plain 4 (decl_pairs d) (
      list_plain 3 child_data d.children child_plain,
      (
        list_plain 3 collection_data d.collections collection_plain,
        (
          capabilities_plain d,
          (
            uses_plain d,
            (
              offers_plain d,
              (
                list_plain 3 expose_data d.exposes expose_plain,
                both_plain 4 (environments_pair d.environments) (program_pair d.runner) (environments_plain d.environments) (program_plain d.runner),
              ),
            ),
          ),
        ),
      ),
    )

-- The value that is written for a declaration has no float.
pub decl_has_no_float : (d : Decl) → has_float (decl_data d) ≡ false
decl_has_no_float d = (decl_plain d).no_float

-- All numbers in the value that is written for a declaration have texts.
pub decl_has_numbers : (d : Decl) → HasNumbers (outline (decl_data d))
decl_has_numbers d = (decl_plain d).numbers

-- The value that is written for a declaration nests no deeper than values may.
pub decl_is_shallow : (d : Decl) → depth (decl_data d) ≤ max_depth
decl_is_shallow d = omega (arith, (decl_plain d).shallow)

-- ---- the text that is written

-- a value's text is the declaration's, where the value is the declaration's and has no float
pub text_is : (d : Decl) (v : Data) (text : List ℕ) → v ≡ decl_data d → (has_float v ≡ false → text ≡ compact_text v) → text ≡ decl_text d
text_is d v text e h = h (ap has_float e ∙ decl_has_no_float d) ∙ ap compact_text e

-- The text of a declaration is read back as the declaration, where it reads as its value.
pub text_reads_back : (d : Decl) (v : Data) (text : List ℕ) → v ≡ decl_data d → (depth v ≤ max_depth → json.read text ≡ Some v) → IsReadable d → decl_of_json text ≡ Ok d
text_reads_back d v text e h readable =
    let not_deep : depth v ≤ max_depth = subst (λ w. depth w ≤ max_depth) (sym e) (decl_is_shallow d) in
    ap of_data (h not_deep ∙ ap Some e) ∙ reads_back d readable
