use Rattle.std.proofs.Common.{◌≡◌, ℕ, ◌+◌, ◌<◌, ◌≤◌, List, [], ◌∷◌, length, Bool, true, false, ◌&&◌, true≢false, Some, refl, sym, ◌∙◌, ap, subst, inl, inr, ◌⊎◌, arith, nat_cmp, Ordering, get_or}
use Rattle.std.specs.Prelude.{slice_get, nat_eq, ◌==◌, min, max}
use Rattle.std.specs.List.{starts_with}
use Rattle.std.specs.Ordering.{is_lt, ordering_then}
use Rattle.std.specs.Cmp.Lexicographic.{slice_cmp}
use Rattle.std.proofs.lemmas.Bool.{eqb-true, eq-eqb, cases_lt, cases_order, false_from_ne_true, or_cases}
use Rattle.std.proofs.lemmas.Bool.Decides.{nat_tests}
use Rattle.std.specs.List.{Contains}
use Rattle.std.specs.List.Sorted.{IsSorted, IsPermutation}
use Rattle.std.specs.Cmp.{IsTotalOrder, IsStrictWeakOrder, first_so, second_so}
use Rattle.std.proofs.lemmas.Cmp.{then_total, on_total, nat_cmp_total, nat_list_cmp_total}
use Rattle.std.proofs.lemmas.List.Sorted.{ranks_by, sorted_far, Contains-permutation}
use Rattle.std.proofs.lemmas.Option.{slice_get_within, slice_get-get_or, get_or_from_slice_get}
use Rattle.std.proofs.lemmas.Bool.{and_from}
use Rattle.cm_facts.proofs.Orders.{then_not_less}
use Rattle.cm_valid.specs.declared.key.RowKey.{RowKey}
use Rattle.cm_valid.specs.Near.{covers, near, AtMost, IsInOrder, AreKeys, ApartKeys, KeysAreApart}

-- ---- texts in order

-- of two texts in order, the first byte of the second is no less
first_at_most : (x y : ℕ) (o : Ordering) → is_lt (ordering_then (nat_cmp y x) o) ≡ false → x ≤ y
first_at_most x y o h = grind (arith, nat_tests)

-- and where these are the same, what follows is in order
rest_at_most : (x y : ℕ) (o : Ordering) → x ≡ y → is_lt (ordering_then (nat_cmp y x) o) ≡ false → is_lt o ≡ false
rest_at_most x y o e h = grind (arith, nat_tests)

-- a text between two texts of which the first covers the second is covered by the first
pub between : (a b c : List ℕ) → AtMost a b → AtMost b c → covers a c ≡ true → covers a b ≡ true
between [] [] c h k e = refl
between [] (y ∷ ys) [] h k e = absurd (true≢false k)
between [] (y ∷ ys) (z ∷ zs) h k e =
    let least : z ≡ 0 = eqb-true z 0 e in
    let bound : y ≤ z = first_at_most y z (slice_cmp nat_cmp zs ys) k in
    eq-eqb y 0 (omega arith)
between (x ∷ xs) [] c h k e = absurd (true≢false h)
between (x ∷ xs) (y ∷ ys) [] h k e = absurd (true≢false (sym e))
between (x ∷ xs) (y ∷ ys) (z ∷ zs) h k e =
    let same : x ≡ z = eqb-true x z (first_so (x == z) (covers xs zs) e) in
    let low : x ≤ y = first_at_most x y (slice_cmp nat_cmp ys xs) h in
    let high : y ≤ z = first_at_most y z (slice_cmp nat_cmp zs ys) k in
    let one : x ≡ y = omega arith in
    let two : y ≡ z = omega arith in
    and_from (x == y) (covers xs ys) (eq-eqb x y one)
    (between xs ys zs (rest_at_most x y (slice_cmp nat_cmp ys xs) one h) (rest_at_most y z (slice_cmp nat_cmp zs ys) two k) (second_so (x == z) (covers xs zs) e))

-- a text that covers one that isn't before it is covered by it
pub both_ways : (a b : List ℕ) → AtMost a b → covers b a ≡ true → covers a b ≡ true
both_ways [] [] h e = refl
both_ways [] (y ∷ ys) h e = absurd (true≢false (sym e))
both_ways (x ∷ xs) [] h e = absurd (true≢false h)
both_ways (x ∷ xs) (y ∷ ys) h e =
    let same : y ≡ x = eqb-true y x (first_so (y == x) (covers ys xs) e) in
    and_from (x == y) (covers xs ys) (eq-eqb x y (sym same))
    (both_ways xs ys (rest_at_most x y (slice_cmp nat_cmp ys xs) (sym same) h) (second_so (y == x) (covers ys xs) e))

-- ---- the walk along the keys in order

-- the text covers none of the keys from the k-th on
abbrev pub CoversNoneFrom : List RowKey → ℕ → List ℕ → Type 0
CoversNoneFrom keys k text = (m : ℕ) (b : RowKey) → k ≤ m → slice_get keys m ≡ Some b → covers text b.text ≡ false

-- what is known of the first k keys: the outer one is among them; each other one needn't be kept in mind, since its row isn't
-- before the bound or since it covers no later key; and two of which the first covers the second reach the bound
pub record Walked (keys : List RowKey) (k outer apart : ℕ) : Type 0 where
  pub within : outer < k
  pub settled : (j : ℕ) (a : RowKey) → j < k → slice_get keys j ≡ Some a → (j ≡ outer) ⊎ ((apart ≤ a.row) ⊎ CoversNoneFrom keys k a.text)
  pub pairs : (i j : ℕ) (a b : RowKey) → i < j → j < k → slice_get keys i ≡ Some a → slice_get keys j ≡ Some b → covers a.text b.text ≡ true → (apart ≤ a.row) ⊎ (apart ≤ b.row)

-- what stands at one place is one key
same_key : (keys : List RowKey) (i j : ℕ) (a b : RowKey) → slice_get keys i ≡ Some a → slice_get keys j ≡ Some b → i ≡ j → a ≡ b
same_key keys i j a b at there e = cc

-- A text that covers no key from a place on covers none from the next place on.
later_none : (keys : List RowKey) (k : ℕ) (text : List ℕ) → CoversNoneFrom keys k text → CoversNoneFrom keys (k + 1) text
later_none keys k text none = λ m b from at. let lower : k ≤ m = omega arith in none m b lower at

-- A walk along the keys goes one key further, where the outer key, or else the new one, is settled.
step : (keys : List RowKey) (k outer apart next bound : ℕ) (q : RowKey) → Walked keys k outer apart → slice_get keys k ≡ Some q → next < k + 1 → bound ≤ apart → ((a : RowKey) → slice_get keys outer ≡ Some a → covers a.text q.text ≡ true → (bound ≤ a.row) ⊎ (bound ≤ q.row)) → ((a : RowKey) → slice_get keys outer ≡ Some a → (outer ≡ next) ⊎ ((bound ≤ a.row) ⊎ CoversNoneFrom keys (k + 1) a.text)) → (k ≡ next) ⊎ ((bound ≤ q.row) ⊎ CoversNoneFrom keys (k + 1) q.text) → Walked keys (k + 1) next bound
step keys k outer apart next bound q walked at within lower reached old new = record {
  within = within;
  settled = settled;
  pairs = pairs;
}
  where
    settled : (j : ℕ) (a : RowKey) → j < k + 1 → slice_get keys j ≡ Some a → (j ≡ next) ⊎ ((bound ≤ a.row) ⊎ CoversNoneFrom keys (k + 1) a.text)
    settled j a below there = elim (cases_lt j k) as (λ _. (j ≡ next) ⊎ ((bound ≤ a.row) ⊎ CoversNoneFrom keys (k + 1) a.text)) [
      | inl l ↦ (elim (walked.settled j a l there) as (λ _. (j ≡ next) ⊎ ((bound ≤ a.row) ⊎ CoversNoneFrom keys (k + 1) a.text)) [
        | inl e ↦ (elim (old a (ap (slice_get keys) (sym e) ∙ there)) as (λ _. (j ≡ next) ⊎ ((bound ≤ a.row) ⊎ CoversNoneFrom keys (k + 1) a.text)) [
          | inl f ↦ inl (e ∙ f)
          | inr f ↦ inr f
        ])
        | inr (inl h) ↦ inr (inl (omega arith))
        | inr (inr none) ↦ inr (inr (later_none keys k a.text none))
      ])
      | inr g ↦ (let here : j ≡ k = omega arith in let same : q ≡ a = same_key keys k j q a at there (sym here) in
          elim new as (λ _. (j ≡ next) ⊎ ((bound ≤ a.row) ⊎ CoversNoneFrom keys (k + 1) a.text)) [
            | inl e ↦ inl (here ∙ e)
            | inr rest ↦ inr (subst (λ (x : RowKey). (bound ≤ x.row) ⊎ CoversNoneFrom keys (k + 1) x.text) same rest)
          ])
    ]

    reaches : (i : ℕ) (a : RowKey) → i < k → slice_get keys i ≡ Some a → covers a.text q.text ≡ true → (bound ≤ a.row) ⊎ (bound ≤ q.row)
    reaches i a l there e = elim (walked.settled i a l there) as (λ _. (bound ≤ a.row) ⊎ (bound ≤ q.row)) [
      | inl same ↦ reached a (ap (slice_get keys) (sym same) ∙ there) e
      | inr (inl h) ↦ inl (omega arith)
      | inr (inr none) ↦ absurd (true≢false (sym e ∙ none k q (omega arith) at))
    ]

    pairs : (i j : ℕ) (a b : RowKey) → i < j → j < k + 1 → slice_get keys i ≡ Some a → slice_get keys j ≡ Some b → covers a.text b.text ≡ true → (bound ≤ a.row) ⊎ (bound ≤ b.row)
    pairs i j a b before below there also e = elim (cases_lt j k) as (λ _. (bound ≤ a.row) ⊎ (bound ≤ b.row)) [
      | inl l ↦ (elim (walked.pairs i j a b before l there also e) as (λ _. (bound ≤ a.row) ⊎ (bound ≤ b.row)) [
        | inl h ↦ inl (omega arith)
        | inr h ↦ inr (omega arith)
      ])
      | inr g ↦ (let here : j ≡ k = omega arith in let same : q ≡ b = same_key keys k j q b at also (sym here) in
          subst (λ (x : RowKey). (bound ≤ a.row) ⊎ (bound ≤ x.row)) same
          (reaches i a (omega arith) there (subst (λ (x : RowKey). covers a.text x.text ≡ true) (sym same) e)))
    ]

-- a covered key whose row is earlier takes the outer one's place
pub walk_inwards : (keys : List RowKey) (k outer apart : ℕ) (o q : RowKey) → Walked keys k outer apart → slice_get keys outer ≡ Some o → slice_get keys k ≡ Some q → q.row < o.row → Walked keys (k + 1) k (min apart (max o.row q.row))
walk_inwards keys k outer apart o q walked there at earlier =
    step keys k outer apart k (min apart (max o.row q.row)) q walked at (omega arith) (omega arith)
    (λ a here e. inl (bounded a here)) (λ a here. inr (inl (bounded a here))) (inl refl)
  where
    bounded : (a : RowKey) → slice_get keys outer ≡ Some a → min apart (max o.row q.row) ≤ a.row
    bounded a here =
        let same : o ≡ a = same_key keys outer outer o a there here refl in
        subst (λ (x : RowKey). min apart (max o.row q.row) ≤ x.row) same (omega arith)

-- A walk along keys goes on past one whose row is later, with the bound that it gives.
pub walk_along : (keys : List RowKey) (k outer apart : ℕ) (o q : RowKey) → Walked keys k outer apart → slice_get keys outer ≡ Some o → slice_get keys k ≡ Some q → o.row ≤ q.row → Walked keys (k + 1) outer (min apart (max o.row q.row))
walk_along keys k outer apart o q walked there at later =
    let within : outer < k = walked.within in
    step keys k outer apart outer (min apart (max o.row q.row)) q walked at (omega arith) (omega arith)
    (λ a here e. inr (omega arith)) (λ a here. inl refl) (inr (inl (omega arith)))

-- a key that isn't covered takes its place too, since the outer one covers no later one
pub walk_on : (keys : List RowKey) (k outer apart : ℕ) (o q : RowKey) → IsInOrder keys → Walked keys k outer apart → slice_get keys outer ≡ Some o → slice_get keys k ≡ Some q → covers o.text q.text ≡ false → Walked keys (k + 1) k apart
walk_on keys k outer apart o q order walked there at uncovered =
    step keys k outer apart k apart q walked at (omega arith) (omega arith)
    (λ a here e. absurd (true≢false (sym e ∙ never a here)))
    (λ a here. inr (inr (λ m b from also. false_from_ne_true (covers a.text b.text) (λ e. true≢false (sym (beyond a here m b from also e) ∙ never a here)))))
    (inl refl)
  where
    never : (a : RowKey) → slice_get keys outer ≡ Some a → covers a.text q.text ≡ false
    never a here = subst (λ (x : RowKey). covers x.text q.text ≡ false) (same_key keys outer outer o a there here refl) uncovered

    beyond : (a : RowKey) → slice_get keys outer ≡ Some a → (m : ℕ) (b : RowKey) → k + 1 ≤ m → slice_get keys m ≡ Some b → covers a.text b.text ≡ true → covers a.text q.text ≡ true
    beyond a here m b from also e =
        let within : outer < k = walked.within in
        between a.text q.text b.text (order outer k a q (omega arith) here at) (order k m q b (omega arith) at also) e

-- at the end of the walk the keys before the bound are apart
pub walk_ends : (keys : List RowKey) (k outer apart : ℕ) → IsInOrder keys → Walked keys k outer apart → length keys ≤ k → ApartKeys keys apart
walk_ends keys k outer apart order walked whole = λ i j a b at there before bound.
    false_from_ne_true (near a.text b.text) (λ e. elim (or_cases (covers a.text b.text) (covers b.text a.text) e) as (λ _. ⊥) [
      | inl f ↦ uncovered i j a b at there (omega arith) bound (λ same. absurd (omega arith)) f
      | inr f ↦ uncovered j i b a there at bound (omega arith) (λ same. absurd (omega arith)) f
    ])
  where
    ordered : (i j : ℕ) (a b : RowKey) → slice_get keys i ≡ Some a → slice_get keys j ≡ Some b → a.row < apart → b.row < apart → i < j → covers a.text b.text ≡ true → ⊥
    ordered i j a b at there one two before e =
        let below : j < length keys = slice_get_within keys j b there in
        elim (walked.pairs i j a b before (omega arith) at there e) as (λ _. ⊥) [ inl h ↦ omega arith | inr h ↦ omega arith ]

    uncovered : (i j : ℕ) (a b : RowKey) → slice_get keys i ≡ Some a → slice_get keys j ≡ Some b → a.row < apart → b.row < apart → (a.row ≡ b.row → ⊥) → covers a.text b.text ≡ true → ⊥
    uncovered i j a b at there one two differ e = elim (cases_order i j) as (λ _. ⊥) [
      | inl same ↦ differ (ap (λ (x : RowKey). x.row) (same_key keys i j a b at there same))
      | inr (inl before) ↦ ordered i j a b at there one two before e
      | inr (inr behind) ↦ ordered j i b a there at two one behind (both_ways b.text a.text (order j i b a (omega arith) there at) e)
    ]

-- ---- the test

-- Whether three tests all pass doesn't depend on which two are taken first.
and_assoc : (p q r : Bool) → (p && (q && r)) ≡ ((p && q) && r)
and_assoc true q r = refl
and_assoc false q r = refl

-- what follows the first text in the second is a zero or the end
pub covers_is : (outer inner : List ℕ) → covers outer inner ≡ (starts_with nat_eq inner outer && (get_or inner (length outer) 0 == 0))
covers_is [] [] = refl
covers_is [] (b ∷ inner) = refl
covers_is (a ∷ outer) [] = refl
covers_is (a ∷ outer) (b ∷ inner) =
    ap (λ v. (a == b) && v) (covers_is outer inner) ∙ and_assoc (a == b) (starts_with nat_eq inner outer) (get_or inner (length outer) 0 == 0)

-- a text covers what begins with it and is as long
pub covers_same : (outer inner : List ℕ) → starts_with nat_eq inner outer ≡ true → length inner ≡ length outer → covers outer inner ≡ true
covers_same [] [] h e = refl
covers_same [] (b ∷ inner) h e = absurd (omega arith)
covers_same (a ∷ outer) [] h e = absurd (omega arith)
covers_same (a ∷ outer) (b ∷ inner) h e =
    and_from (a == b) (covers outer inner) (first_so (a == b) (starts_with nat_eq inner outer) h)
    (covers_same outer inner (second_so (a == b) (starts_with nat_eq inner outer) h) (omega arith))

-- ---- one more key

-- Keys of the first n rows, each with the text and the place of its row.
pub record AreKeysBelow {A : Type 0} (key : A → List ℕ) (rows : List A) (n : ℕ) (keys : List RowKey) : Type 0 where
  pub whole : length keys ≡ n
  pub each : (i : ℕ) (a : A) → i < n → slice_get rows i ≡ Some a → slice_get keys i ≡ Some (record { text = key a; row = i })

-- ---- sorted keys

-- by their texts, then by their rows
abbrev pub key_cmp : RowKey → RowKey → Ordering
key_cmp a b = ordering_then (slice_cmp nat_cmp a.text b.text) (nat_cmp a.row b.row)

-- Keys are totally ordered.
key_cmp_total : IsTotalOrder key_cmp
key_cmp_total = then_total (on_total (λ (a : RowKey). a.text) nat_list_cmp_total) (on_total (λ (a : RowKey). a.row) nat_cmp_total)

-- sorted keys are in order
pub in_order : (keys : List RowKey) → IsSorted key_cmp keys → IsInOrder keys
in_order keys sorted = λ i j a b upto at there.
    let weak : IsStrictWeakOrder (λ (x : RowKey) (y : RowKey). is_lt (key_cmp x y)) = ranks_by key_cmp_total (λ (x : RowKey). x) in
    let far : is_lt (key_cmp (get_or keys j a) (get_or keys i a)) ≡ false = sorted_far (λ (x : RowKey) (y : RowKey). is_lt (key_cmp x y)) weak keys sorted i j a upto (slice_get_within keys j b there) in
    let one : get_or keys i a ≡ a = get_or_from_slice_get keys i a a at in
    let two : get_or keys j a ≡ b = get_or_from_slice_get keys j b a there in
    let near_by : is_lt (key_cmp b a) ≡ false = subst (λ (x : RowKey). is_lt (key_cmp b x) ≡ false) one (subst (λ (x : RowKey). is_lt (key_cmp x (get_or keys i a)) ≡ false) two far) in
    then_not_less (slice_cmp nat_cmp b.text a.text) (nat_cmp b.row a.row) near_by

-- A key at a place stands at some place among the keys when they are sorted.
placed : (keys sorted : List RowKey) (i : ℕ) (x : RowKey) → IsPermutation keys sorted → slice_get keys i ≡ Some x → (p : ℕ) × (slice_get sorted p ≡ Some x)
placed keys sorted i x moved at =
    let here : Contains keys x = (i, slice_get_within keys i x at, get_or_from_slice_get keys i x x at) in
    let there : Contains sorted x = Contains-permutation keys sorted x moved here in
    (there.0, slice_get-get_or sorted there.0 x there.1 ∙ ap Some there.2)

-- The key of a row: the text that is made of it, and its number.
key_at : {A : Type 0} → (A → List ℕ) → ℕ → A → RowKey
key_at key i a = record { text = key a; row = i }

-- rows stand apart where their keys do, in whatever order
pub rows_apart : {A : Type 0} (key : A → List ℕ) (rows : List A) (keys sorted : List RowKey) (n : ℕ) → AreKeys key rows keys → IsPermutation keys sorted → ApartKeys sorted n → KeysAreApart key rows n
unfolding key_at
rows_apart key rows keys sorted n are moved apart = λ i j a b at there before bound.
    let one : (p : ℕ) × (slice_get sorted p ≡ Some (key_at key i a)) = placed keys sorted i (key_at key i a) moved (are.each i a at) in
    let two : (p : ℕ) × (slice_get sorted p ≡ Some (key_at key j b)) = placed keys sorted j (key_at key j b) moved (are.each j b there) in
    apart one.0 two.0 (key_at key i a) (key_at key j b) one.1 two.1 before bound
