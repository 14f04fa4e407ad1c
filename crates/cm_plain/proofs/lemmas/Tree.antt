-- Values with borrowed texts, level by level, and the members of an object.
use Rattle.std.proofs.Common.{◌≡◌, ℕ, List, [], ◌∷◌, ◌++◌, map, Option, Some, None, Bool, true, false, refl, sym, ap, ◌∙◌}
use Rattle.std.proofs.Common.{string_bytes, string_cmp, if◌then◌else◌, true≢false, Vec, Bor, Global, rules}
use Rattle.std.proofs.lemmas.Slice.Eq.{bytes_eq-Decides}
use Rattle.std.specs.List.Sorted.{IsStrictlySortedBy}
use Rattle.std.specs.Map.{keys_of}
use Rattle.std.specs.Str.{bytes_eq}
use Rattle.serde_json.specs.Data.{Data, array, object, Members, no_members, put}
use Rattle.serde_json.specs.Find.{get_member}
use Rattle.serde_json.specs.View as json
use Rattle.serde_json.proofs.Views.{Entry, put_last, get_member-put, get_member-put_other}
use Rattle.cm_plain.specs.JsonTree.{Seen, beside, view, items_view, members_view, member_or}
use Rattle.cm_plain.specs.declared.tree.JsonTree.{JsonTree, Array, Object, the_lemmas}

-- A member of an object: its key, and its value with borrowed texts.
abbrev pub Member : Type 0
Member = Bor (List ℕ) × JsonTree

-- a member, with its value seen as data
abbrev pub seen : Member → Seen
seen m = (m.0, view m.1)

-- A list with borrowed texts stands for the array of what its items stand for.
pub view-Array : (v : Vec JsonTree Global) → view (Array v) ≡ array (items_view v.items)
view-Array v = search (rules, the_lemmas)

-- An object with borrowed texts stands for the object of what its members stand for.
pub view-Object : (v : Vec Member Global) → view (Object v) ≡ object (members_view v.items)
view-Object v = search (rules, the_lemmas)

-- ---- one member more

-- Members beside others, with one more, are those with the last one's value put at its key.
push_beside : (ms : Members) (xs : List Member) (x : Member)
    → beside ms (map seen (xs ++ x ∷ [])) ≡ put x.0.now (view x.1) (beside ms (map seen xs))
push_beside ms [] x = refl
push_beside ms (y ∷ ys) x = push_beside (put y.0.now (view y.1) ms) ys x

-- Members with one more behind them stand for the earlier ones with its value put at its key.
pub members_push : (xs : List Member) (x : Member)
    → members_view (xs ++ x ∷ []) ≡ put x.0.now (view x.1) (members_view xs)
members_push xs x = push_beside no_members xs x

-- a member of an object of the kit's, whose keys ascend
pub member_moved : (done : List Entry) (e : Entry) (left : List Entry) (old : List Member) (x : Member)
    → IsStrictlySortedBy string_cmp (keys_of (done ++ e ∷ left)) → x.0.now ≡ string_bytes e.0
    → view x.1 ≡ json.view e.1 → members_view old ≡ json.members_view done
    → members_view (old ++ x ∷ []) ≡ json.members_view (done ++ e ∷ [])
member_moved done e left old x sorted key value same =
    members_push old x ∙ rw (key, value, same) (put_last done e left sorted)

-- ---- the member with a key

-- what is found of these members, by what was found before
abbrev pub found_in : List ℕ → Option Data → List Member → Option Data
found_in key found [] = found
found_in key found (m ∷ more) = found_in key (member_or found (seen m) key) more

-- Putting a value at a key gives that value for the same key, else what was there.
one_put : (b : Bool) (key k : List ℕ) (d : Data) (ms : Members) → bytes_eq k key ≡ b
    → (if b then Some d else get_member key ms) ≡ get_member key (put k d ms)
one_put true key k d ms e =
    let same : k ≡ key = (bytes_eq-Decides k key).0 e in
    rw same (sym (get_member-put key d ms))
one_put false key k d ms e =
    sym (get_member-put_other key k d ms (λ same. true≢false (sym ((bytes_eq-Decides k key).1 (sym same)) ∙ e)))

-- What is found for a key beside members, and then further ones, is their member of that key.
found_beside : (key : List ℕ) (ms : Members) (xs : List Member)
    → found_in key (get_member key ms) xs ≡ get_member key (beside ms (map seen xs))
found_beside key ms [] = refl
found_beside key ms (x ∷ xs) =
    ap (λ o. found_in key o xs) (one_put _ key x.0.now (view x.1) ms refl)
    ∙ found_beside key (put x.0.now (view x.1) ms) xs

-- The last member with a key is the one that the object has for it.
pub last_is_found : (key : List ℕ) (xs : List Member) → found_in key None xs ≡ get_member key (members_view xs)
last_is_found key xs = found_beside key no_members xs
