-- The keys of an object, one after another: the first unknown one in byte order is the least.
use Rattle.std.proofs.Common.{◌≡◌, ℕ, List, [], ◌∷◌, map, Option, Some, None, Bool, true, false, refl, ap, sym, ◌∙◌}
use Rattle.std.proofs.Common.{Bor, if◌then◌else◌, nat_cmp, Ordering, Less, Equal, Greater}
use Rattle.std.proofs.lemmas.Cmp.{nat_list_cmp_total}
use Rattle.std.specs.Cmp.Lexicographic.{slice_cmp}
use Rattle.std.specs.List.{list_any}
use Rattle.std.specs.Ordering.{match_ordering, ordering_reverse}
use Rattle.std.specs.Str.{bytes_eq}
use Rattle.serde_json.specs.Data.{Data, Members, no_members, member, put}
use Rattle.cm_facts.proofs.Lists.{list_any_map}
use Rattle.cm_facts.proofs.Orders.{slice_cmp_equal}
use Rattle.cm_plain.specs.JsonTree.{beside, view, members_view}
use Rattle.cm_plain.proofs.lemmas.Tree.{Member, seen}
use Rattle.cm_read.specs.Fields.{unknown_in}
use Rattle.cm_read.specs.FieldsInside.{map_now, lesser, least_with}

-- ---- keys in byte order

-- a key is below all keys of an object in order
abbrev Below : List ℕ → Members → Type 0
Below k no_members = Unit {0}
Below k (member l e ms) = slice_cmp nat_cmp k l ≡ Less

-- the keys of an object ascend
abbrev Ascends : Members → Type 0
Ascends no_members = Unit {0}
Ascends (member l e ms) = Below l ms × Ascends ms

-- Where one key comes behind another in byte order, the other comes before it.
turned : (k l : List ℕ) → slice_cmp nat_cmp k l ≡ Greater → slice_cmp nat_cmp l k ≡ Less
turned k l g = nat_list_cmp_total.antisymm l k ∙ ap ordering_reverse g

-- A key below the one put and below all is below the object's keys, whichever way the put goes.
below_put_at : (o : Ordering) (l k m : List ℕ) (d e : Data) (ms : Members) → slice_cmp nat_cmp k m ≡ o
    → slice_cmp nat_cmp l k ≡ Less → slice_cmp nat_cmp l m ≡ Less
    → Below l (match_ordering o (member k d (member m e ms)) (member m d ms) (member m e (put k d ms)))
below_put_at Less l k m d e ms is low below = low
below_put_at Equal l k m d e ms is low below = below
below_put_at Greater l k m d e ms is low below = below

-- A key below that of a put and below all keys of an object is below all behind the put.
below_put : (l k : List ℕ) (d : Data) (ms : Members) → slice_cmp nat_cmp l k ≡ Less → Below l ms → Below l (put k d ms)
below_put l k d no_members low below = low
below_put l k d (member m e ms) low below = below_put_at _ l k m d e ms refl low below

-- Keys that ascend still do behind a put at the first member, whichever way the key compares.
ascends_put_at : (o : Ordering) (k l : List ℕ) (d e : Data) (ms : Members) → slice_cmp nat_cmp k l ≡ o
    → Below l ms → Ascends ms → Ascends (put k d ms)
    → Ascends (match_ordering o (member k d (member l e ms)) (member l d ms) (member l e (put k d ms)))
ascends_put_at Less k l d e ms is below up more = (is, (below, up))
ascends_put_at Equal k l d e ms is below up more = (below, up)
ascends_put_at Greater k l d e ms is below up more = (below_put l k d ms (turned k l is) below, more)

-- The keys of an object that ascend do behind a put.
ascends_put : (k : List ℕ) (d : Data) (ms : Members) → Ascends ms → Ascends (put k d ms)
ascends_put k d no_members up = (tt, tt)
ascends_put k d (member l e ms) up = ascends_put_at _ k l d e ms refl up.0 up.1 (ascends_put k d ms up.1)

-- ---- one key more

-- the least unknown key after one key more, by whether that is known
abbrev with_key : Bool → Option (List ℕ) → List ℕ → Option (List ℕ)
with_key b least k = if b then least else lesser least k

-- A key that comes before another, and is the lesser of the rest, is the lesser with that one.
lesser_first : (b : Bool) (k l : List ℕ) (rest : Option (List ℕ)) → slice_cmp nat_cmp k l ≡ Less
    → lesser rest k ≡ Some k → lesser (if b then rest else Some l) k ≡ Some k
lesser_first true k l rest low more = more
lesser_first false k l rest low more = ap (λ o. match_ordering o (Some k) (Some l) (Some l)) low

-- A key before one that is below all keys of an object is below them too.
below_next : (k l : List ℕ) (ms : Members) → slice_cmp nat_cmp k l ≡ Less → Below l ms → Below k ms
below_next k l no_members low below = tt
below_next k l (member m e ms) low below = nat_list_cmp_total.trans k l m low below

-- A key below all keys of an object comes first among those that aren't known.
below_all : (known : List (List ℕ)) (k : List ℕ) (ms : Members) → Below k ms → Ascends ms
    → lesser (unknown_in known ms) k ≡ Some k
below_all known k no_members below up = refl
below_all known k (member l e ms) below up =
    lesser_first (list_any (λ w. bytes_eq w l) known) k l (unknown_in known ms) below
    (below_all known k ms (below_next k l ms below up.0) up.1)

-- A key that comes before all unknown ones is the least unknown one, if it isn't known.
put_first : (b : Bool) (k : List ℕ) (old : Option (List ℕ)) → lesser old k ≡ Some k
    → (if b then old else Some k) ≡ with_key b old k
put_first true k old e = refl
put_first false k old e = sym e

-- A key that is there already leaves the least unknown key as it was.
put_same : (b : Bool) (k : List ℕ) (o : Ordering) (rest : Option (List ℕ)) → slice_cmp nat_cmp k k ≡ o → o ≡ Equal
    → (if b then rest else Some k) ≡ with_key b (if b then rest else Some k) k
put_same true k o rest e eq = refl
put_same false k o rest e eq = sym (ap (λ p. match_ordering p (Some k) (Some k) (Some k)) (e ∙ eq))

-- A key put behind the first changes the least unknown key as it does in the rest.
put_behind : (b a : Bool) (k l : List ℕ) (old new : Option (List ℕ)) → slice_cmp nat_cmp k l ≡ Greater
    → new ≡ with_key b old k → (if a then new else Some l) ≡ with_key b (if a then old else Some l) k
put_behind b true k l old new g e = e
put_behind true false k l old new g e = refl
put_behind false false k l old new g e = sym (ap (λ p. match_ordering p (Some k) (Some l) (Some l)) g)

-- The least unknown key behind a put at the first member is that with the key put.
unknown_put_at : (known : List (List ℕ)) (o : Ordering) (k l : List ℕ) (d e : Data) (ms : Members)
    → slice_cmp nat_cmp k l ≡ o → Below l ms → Ascends ms
    → unknown_in known (put k d ms) ≡ with_key (list_any (λ w. bytes_eq w k) known) (unknown_in known ms) k
    → unknown_in known (match_ordering o (member k d (member l e ms)) (member l d ms) (member l e (put k d ms)))
    ≡ with_key (list_any (λ w. bytes_eq w k) known) (unknown_in known (member l e ms)) k
unknown_put_at known Less k l d e ms is below up more =
    put_first (list_any (λ w. bytes_eq w k) known) k (unknown_in known (member l e ms))
    (below_all known k (member l e ms) is (below, up))
unknown_put_at known Equal k l d e ms is below up more =
    let same : k ≡ l = slice_cmp_equal k l is in
    let level : slice_cmp nat_cmp l l ≡ Equal = ap (λ x. slice_cmp nat_cmp x l) (sym same) ∙ is in
    put_same (list_any (λ w. bytes_eq w l) known) l _ (unknown_in known ms) refl level
    ∙ ap (λ x. with_key (list_any (λ w. bytes_eq w x) known) (unknown_in known (member l e ms)) x) (sym same)
unknown_put_at known Greater k l d e ms is below up more =
    put_behind (list_any (λ w. bytes_eq w k) known) (list_any (λ w. bytes_eq w l) known) k l
    (unknown_in known ms) (unknown_in known (put k d ms)) is more

-- The least unknown key behind a put is that before it, with the key if it isn't known.
unknown_put : (known : List (List ℕ)) (k : List ℕ) (d : Data) (ms : Members) → Ascends ms
    → unknown_in known (put k d ms) ≡ with_key (list_any (λ w. bytes_eq w k) known) (unknown_in known ms) k
unknown_put known k d no_members up = put_first (list_any (λ w. bytes_eq w k) known) k None refl
unknown_put known k d (member l e ms) up =
    unknown_put_at known _ k l d e ms refl up.0 up.1 (unknown_put known k d ms up.1)

-- ---- all keys

-- the least unknown key, by the least one of the members before these
abbrev pub least_in : List (Bor (List ℕ)) → Option (List ℕ) → List Member → Option (List ℕ)
least_in known least [] = least
least_in known least (m ∷ more) = least_in known (least_with known least m.0.now) more

-- The least of the unknown keys with one more is the lesser of it and that key, if not known.
one_more : (known : List (Bor (List ℕ))) (least : Option (List ℕ)) (k : List ℕ)
    → least_with known least k ≡ with_key (list_any (λ w. bytes_eq w k) (map_now known)) least k
one_more known least k =
    ap (λ b. with_key b least k) (sym (list_any_map (λ w. bytes_eq w k) (λ w. w.now) known))

-- The least unknown key beside members, and then further ones, is that of all of them.
least_beside : (known : List (Bor (List ℕ))) (ms : Members) (xs : List Member) → Ascends ms
    → least_in known (unknown_in (map_now known) ms) xs ≡ unknown_in (map_now known) (beside ms (map seen xs))
least_beside known ms [] up = refl
least_beside known ms (x ∷ xs) up =
    ap (λ o. least_in known o xs)
    (one_more known (unknown_in (map_now known) ms) x.0.now ∙ sym (unknown_put (map_now known) x.0.now (view x.1) ms up))
    ∙ least_beside known (put x.0.now (view x.1) ms) xs (ascends_put x.0.now (view x.1) ms up)

-- The least unknown key among members is the first unknown one of the object in byte order.
pub least_is_first : (known : List (Bor (List ℕ))) (xs : List Member)
    → least_in known None xs ≡ unknown_in (map_now known) (members_view xs)
least_is_first known xs = least_beside known no_members xs tt
