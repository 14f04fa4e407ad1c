use Rattle.std.proofs.Common.{◌≡◌, ℕ, zero, suc, ◌+◌, ◌<◌, ◌≤◌, List, [], ◌∷◌, ◌++◌, length, take, drop, set, Bool, true, false, not, ◌&&◌, true≢false, refl, sym, ◌∙◌, ap, subst, IsTrue, inl, inr, ◌⊎◌, arith, get_or, nat_eq, Some}
use Rattle.std.specs.Prelude.{map, replicate, count_by, slice_get}
use Rattle.std.specs.List.{list_any, list_all}
use Rattle.std.proofs.lemmas.Bool.{cases_lt, not-true, or_cases}
use Rattle.std.proofs.lemmas.List.{length-append, length-map, length-drop, get_or-map, get_or_past, get_or_append_left}
use Rattle.std.proofs.Math.Seq.{get_or-append_seam}
use Rattle.cm_deps.specs.Edges.{holds, is_set, row, On, IsBelow, IsListing, IsToposorted}
use Rattle.cm_deps.specs.Ring.{IsLeastLeft, IsFirstLeft, IsWalk, IsRotated, IsRing, EachHasUnlisted}
use Rattle.cm_deps.proofs.lemmas.listed.Listing.{same_nat, nat_eq-refl, or_left, or_right, one_fails, listing_more}
use Rattle.cm_deps.proofs.lemmas.listed.Toposorting.{listing_none}
use Rattle.cm_deps.proofs.lemmas.loops.Cores.{held_at}
use Rattle.cm_deps.proofs.lemmas.loops.Rings.{none_left, toposorted_goes_on, IsWalking, walking_none, walking_more, walked_back, walked_all, ring_found}

-- ---- numbers below a bound

-- the numbers below n
abbrev pub below : ℕ → List ℕ
below zero = []
below (suc n) = below n ++ n ∷ []

-- There are as many numbers below a bound as the bound says.
length_below : (n : ℕ) → length (below n) ≡ n
length_below zero = refl
length_below (suc n) = let rest : length (below n) ≡ n = length_below n in omega (arith, length-append (below n) (n ∷ []), rest)

-- a test that passes at one of them, or at none
some_below : (p : ℕ → Bool) (n : ℕ) → ((x : ℕ) → x < n → p x ≡ false) ⊎ ((x : ℕ) × (x < n) × IsTrue (p x))
some_below p zero = inl (λ x low. absurd (omega arith))
some_below p (suc n) = elim (some_below p n) as (λ _. ((x : ℕ) → x < suc n → p x ≡ false) ⊎ ((x : ℕ) × (x < suc n) × IsTrue (p x))) [
  | inr found ↦ inr (found.0, omega (arith, found.1), found.2)
  | inl none ↦ by (p n) refl none
]
  where
    by : (b : Bool) → p n ≡ b → ((x : ℕ) → x < n → p x ≡ false) → ((x : ℕ) → x < suc n → p x ≡ false) ⊎ ((x : ℕ) × (x < suc n) × IsTrue (p x))
    by true here none = inr (n, omega arith, here)
    by false here none = inl (λ x low. elim (cases_lt x n) as (λ _. p x ≡ false) [
      | inl before ↦ none x before
      | inr from ↦ (let same : n ≡ x = omega arith in subst (λ v. p v ≡ false) same here)
    ])

-- the first that doesn't pass, or none
first_below : (p : ℕ → Bool) (n : ℕ) → ((x : ℕ) → x < n → IsTrue (p x)) ⊎ ((x : ℕ) × IsFirstLeft n p x)
first_below p zero = inl (λ x low. absurd (omega arith))
first_below p (suc n) = elim (first_below p n) as (λ _. ((x : ℕ) → x < suc n → IsTrue (p x)) ⊎ ((x : ℕ) × IsFirstLeft (suc n) p x)) [
  | inr found ↦ inr (found.0, record { inside = omega (arith, found.1.inside); left = found.1.left; first = found.1.first })
  | inl all ↦ by (p n) refl all
]
  where
    by : (b : Bool) → p n ≡ b → ((x : ℕ) → x < n → IsTrue (p x)) → ((x : ℕ) → x < suc n → IsTrue (p x)) ⊎ ((x : ℕ) × IsFirstLeft (suc n) p x)
    by false here all = inr (n, record { inside = omega arith; left = here; first = all })
    by true here all = inl (λ x low. elim (cases_lt x n) as (λ _. IsTrue (p x)) [
      | inl before ↦ all x before
      | inr from ↦ (let same : n ≡ x = omega arith in subst (λ v. IsTrue (p v)) same here)
    ])

-- ---- each numbered graph can be toposorted

-- Whether a node isn't queued yet and all that it depends on are.
is_ready : List (List ℕ) → List Bool → ℕ → Bool
is_ready after queued x = not (is_set queued x) && list_all (is_set queued) (row after x)

-- Where the first test fails, and not so with the second passing, the second fails too.
not_both : (p q : Bool) → (not p && q) ≡ false → p ≡ false → q ≡ false
not_both true q none left = absurd (true≢false left)
not_both false q none left = none

-- Where the first test fails and the second passes together, each does so alone.
both_hold : (p q : Bool) → IsTrue (not p && q) → (p ≡ false) × (q ≡ true)
both_hold true q h = absurd (true≢false (sym h))
both_hold false q h = (refl, h)

-- A topological sort under way with no node ready has ended.
stuck : (after : List (List ℕ)) (order : List ℕ) (queued : List Bool) → IsListing after order queued queued → ((x : ℕ) → x < length after → is_ready after queued x ≡ false) → IsToposorted after order
unfolding is_ready
stuck after order queued state none = record {
  grown = state.grown;
  rest = λ x inside left. (let unready : list_all (is_set queued) (row after x) ≡ false = not_both (is_set queued x) (list_all (is_set queued) (row after x)) (none x inside) (state.listed x ∙ left) in
      let waits : (y : ℕ) × IsTrue (holds (row after x) y) × (is_set queued y ≡ false) = one_fails (is_set queued) (row after x) unready in
      (waits.0, waits.1, sym (state.listed waits.0) ∙ waits.2));
}

-- A topological sort under way, with steps enough, comes to an end.
toposort_on : (after : List (List ℕ)) (fuel : ℕ) (order : List ℕ) (queued : List Bool) → IsListing after order queued queued → length after ≤ length order + fuel → (toposorted : List ℕ) × IsToposorted after toposorted
unfolding is_ready
toposort_on after zero order queued state enough = (
  order,
  stuck after order queued state (λ x inside.
      let counted : count_by not queued + length order ≡ length after = state.counted in
      let set_x : IsTrue (is_set queued x) = none_left queued x (omega arith) (omega (arith, state.queued_size)) in
      ap (λ b. not b && list_all (is_set queued) (row after x)) set_x),
)
toposort_on after (suc fuel) order queued state enough = elim (some_below (is_ready after queued) (length after)) as (λ _. (toposorted : List ℕ) × IsToposorted after toposorted) [
  | inl none ↦ (order, stuck after order queued state none)
  | inr found ↦ (let both : (is_set queued found.0 ≡ false) × (list_all (is_set queued) (row after found.0) ≡ true) = both_hold (is_set queued found.0) (list_all (is_set queued) (row after found.0)) found.2 in
      let next : IsListing after (order ++ found.0 ∷ []) (set queued found.0 true) queued = listing_more after order queued queued found.0 state found.1 both.0 both.1 in
      toposort_on after fuel (order ++ found.0 ∷ []) (set queued found.0 true)
      (record { queued_size = next.queued_size; grown = next.grown; listed = next.listed; known = λ x here. sym (next.listed x) ∙ here; counted = next.counted })
      (omega (arith, length-append order (found.0 ∷ []))))
]

-- Of each graph there is a list with which a topological sort ends.
pub can_be_toposorted : (after : List (List ℕ)) → (order : List ℕ) × IsToposorted after order
can_be_toposorted after = toposort_on after (length after) [] (replicate (length after) false) (listing_none after (length after) refl) (omega arith)

-- ---- the loop

-- Where some item of a list fails a test, there is one that fails it.
one_open : (xs : List ℕ) (p : ℕ → Bool) → IsTrue (list_any (λ v. not (p v)) xs) → (v : ℕ) × IsTrue (holds xs v) × (p v ≡ false)
one_open [] p some = absurd (true≢false (sym some))
one_open (x ∷ xs) p some = elim (or_cases (not (p x)) (list_any (λ v. not (p v)) xs) some) as (λ _. (v : ℕ) × IsTrue (holds (x ∷ xs) v) × (p v ≡ false)) [
  | inl here ↦ (x, or_left (nat_eq x x) (holds xs x) (nat_eq-refl x), not-true (p x) here)
  | inr there ↦ (let rest : (v : ℕ) × IsTrue (holds xs v) × (p v ≡ false) = one_open xs p there in (rest.0, or_right (nat_eq rest.0 x) (holds xs rest.0) rest.1, rest.2))
]

-- Where an item of a list fails a test, some item does.
open_some : (xs : List ℕ) (p : ℕ → Bool) (v : ℕ) → IsTrue (holds xs v) → p v ≡ false → IsTrue (list_any (λ w. not (p w)) xs)
open_some [] p v held left = absurd (true≢false (sym held))
open_some (x ∷ xs) p v held left = elim (or_cases (nat_eq v x) (holds xs v) held) as (λ _. IsTrue (list_any (λ w. not (p w)) (x ∷ xs))) [
  | inl same ↦ or_left (not (p x)) (list_any (λ w. not (p w)) xs) (subst (λ w. IsTrue (not (p w))) (same_nat v x same) (ap not left))
  | inr there ↦ or_right (not (p x)) (list_any (λ w. not (p w)) xs) (open_some xs p v there left)
]

-- What stands at a place of a list is what is read there.
at_place : (xs : List ℕ) (k x : ℕ) → slice_get xs k ≡ Some x → get_or xs k 0 ≡ x
at_place [] k x here = absurd (let never : ⊥ = cc in never)
at_place (y ∷ ys) zero x here = let same : y ≡ x = cc in same
at_place (y ∷ ys) (suc k) x here = at_place ys k x here

-- ---- flags of what is listed

-- The nodes that a topological sort has listed are nodes of the graph.
inside_of : (after : List (List ℕ)) (order : List ℕ) (y : ℕ) → IsToposorted after order → IsTrue (holds order y) → y < length after
inside_of after order y toposorted held =
    let place : (k : ℕ) × (k < length order) × (slice_get order k ≡ Some y) = held_at order y held in (toposorted.grown place.0 y place.2).inside

-- the number that stands at a place below the bound is that place
at_below : (n i : ℕ) → i < n → get_or (below n) i 0 ≡ i
at_below zero i low = absurd (omega arith)
at_below (suc n) i low = elim (cases_lt i n) as (λ _. get_or (below n ++ n ∷ []) i 0 ≡ i) [
  | inl before ↦ get_or_append_left (below n) (n ∷ []) 0 i (omega (arith, length_below n)) ∙ at_below n i before
  | inr from ↦ (let here : n ≡ i = omega arith in
      ap (λ k. get_or (below n ++ n ∷ []) k 0) (sym (length_below n ∙ here)) ∙ get_or-append_seam (below n) n [] 0 ∙ here)
]

-- The flags of all numbers below a bound are set for just those that an order holds.
flags_same : (n : ℕ) (order : List ℕ) → ((y : ℕ) → IsTrue (holds order y) → y < n) → (x : ℕ) → is_set (map (holds order) (below n)) x ≡ holds order x
flags_same n order inside x = elim (cases_lt x n) as (λ _. is_set (map (holds order) (below n)) x ≡ holds order x) [
  | inl low ↦ get_or-map (holds order) (below n) x 0 false (omega (arith, length_below n)) ∙ ap (holds order) (at_below n x low)
  | inr high ↦ get_or_past (map (holds order) (below n)) x false (omega (arith, length-map (below n) (holds order), length_below n)) ∙ by (holds order x) refl high
]
  where
    by : (b : Bool) → holds order x ≡ b → n ≤ x → false ≡ holds order x
    by true held from = let low : x < n = inside x held in absurd (omega arith)
    by false out from = sym out

-- the least of these that isn't listed
least_of : (xs : List ℕ) (p : ℕ → Bool) (y : ℕ) → IsTrue (holds xs y) → p y ≡ false → (x : ℕ) × IsLeastLeft xs p x
least_of [] p y held left = absurd (true≢false (sym held))
least_of (z ∷ zs) p y held left = by (p z) refl (list_any (λ v. not (p v)) zs) refl (λ v there open_v. least_of zs p v there open_v)
  where
    after_first : (v : ℕ) → IsTrue (holds (z ∷ zs) v) → (v ≡ z) ⊎ IsTrue (holds zs v)
    after_first v there = elim (or_cases (nat_eq v z) (holds zs v) there) as (λ _. (v ≡ z) ⊎ IsTrue (holds zs v)) [ inl same ↦ inl (same_nat v z same) | inr later ↦ inr later ]

    choose : (b : Bool) → p z ≡ b → (x : ℕ) × IsLeastLeft zs p x → (x : ℕ) × IsLeastLeft (z ∷ zs) p x
    choose true e (x, least) = (
      x,
      record {
        among = or_right (nat_eq x z) (holds zs x) least.among;
        left = least.left;
        least = λ v there open_v. elim (after_first v there) as (λ _. x ≤ v) [
          | inl same ↦ absurd (true≢false (sym e ∙ subst (λ w. p w ≡ false) same open_v))
          | inr later ↦ least.least v later open_v
        ];
      },
    )
    choose false e (x, least) = elim (cases_lt z x) as (λ _. (x : ℕ) × IsLeastLeft (z ∷ zs) p x) [
      | inl lower ↦ (
        z,
        record {
          among = or_left (nat_eq z z) (holds zs z) (nat_eq-refl z);
          left = e;
          least = λ v there open_v. elim (after_first v there) as (λ _. z ≤ v) [
            | inl same ↦ omega arith
            | inr later ↦ (let low : x ≤ v = least.least v later open_v in omega arith)
          ];
        },
      )
      | inr higher ↦ (
        x,
        record {
          among = or_right (nat_eq x z) (holds zs x) least.among;
          left = least.left;
          least = λ v there open_v. elim (after_first v there) as (λ _. x ≤ v) [
            | inl same ↦ omega arith
            | inr later ↦ least.least v later open_v
          ];
        },
      )
    ]

    by : (b : Bool) → p z ≡ b → (o : Bool) → list_any (λ v. not (p v)) zs ≡ o → ((v : ℕ) → IsTrue (holds zs v) → p v ≡ false → (x : ℕ) × IsLeastLeft zs p x) → (x : ℕ) × IsLeastLeft (z ∷ zs) p x
    by b e true some rest =
        let found : (v : ℕ) × IsTrue (holds zs v) × (p v ≡ false) = one_open zs p some in
        let least : (x : ℕ) × IsLeastLeft zs p x = rest found.0 found.1 found.2 in
        choose b e least
    by false e false none rest = (
      z,
      record {
        among = or_left (nat_eq z z) (holds zs z) (nat_eq-refl z);
        left = e;
        least = λ v there open_v. elim (after_first v there) as (λ _. z ≤ v) [
          | inl same ↦ omega arith
          | inr later ↦ absurd (true≢false (sym (open_some zs p v later open_v) ∙ none))
        ];
      },
    )
    by true e false none rest = absurd (elim (after_first y held) as (λ _. ⊥) [
      | inl same ↦ true≢false (sym e ∙ subst (λ v. p v ≡ false) same left)
      | inr later ↦ true≢false (sym (open_some zs p y later left) ∙ none)
    ])

-- A walk under way among nodes that aren't listed, with steps enough, comes back to a node.
walk_on : (after : List (List ℕ)) (listed : List Bool) (start : ℕ) → IsBelow after (length after) → EachHasUnlisted after (is_set listed) → (fuel : ℕ) (seen : List Bool) (passed : List ℕ) (node steps : ℕ) → IsWalking after listed start seen passed node steps → length after ≤ steps + fuel → (all : List ℕ) × (last : ℕ) × IsWalk after (is_set listed) start all last
walk_on after listed start low goes zero seen passed node steps state enough = (passed, node, walked_all after listed start seen passed node steps state (omega arith))
walk_on after listed start low goes (suc fuel) seen passed node steps state enough = by (is_set seen node) refl (walk_on after listed start low goes fuel)
  where
    by : (b : Bool) → is_set seen node ≡ b → ((s : List Bool) (p : List ℕ) (n m : ℕ) → IsWalking after listed start s p n m → length after ≤ m + fuel → (all : List ℕ) × (last : ℕ) × IsWalk after (is_set listed) start all last) → (all : List ℕ) × (last : ℕ) × IsWalk after (is_set listed) start all last
    by true here rest = (passed, node, walked_back after listed start seen passed node steps state here)
    by false new rest =
        let next : (y : ℕ) × On after node y × (is_set listed y ≡ false) = goes node state.inside state.left in
        let least : (x : ℕ) × IsLeastLeft (row after node) (is_set listed) x = least_of (row after node) (is_set listed) next.0 next.1 next.2 in
        rest (set seen node true) (passed ++ node ∷ []) least.0 (steps + 1) (walking_more after listed start seen passed node steps least.0 low state new least.1) (omega arith)

-- a list that isn't empty, begun at its least
can_be_turned : (nodes : List ℕ) → 0 < length nodes → (ring : List ℕ) × IsRotated nodes ring
can_be_turned [] some = absurd (omega arith)
can_be_turned (x ∷ xs) some =
    let least : (m : ℕ) × IsLeastLeft (x ∷ xs) (λ v. false) m = least_of (x ∷ xs) (λ v. false) x (or_left (nat_eq x x) (holds xs x) (nat_eq-refl x)) refl in
    let place : (k : ℕ) × (k < length (x ∷ xs)) × (slice_get (x ∷ xs) k ≡ Some least.0) = held_at (x ∷ xs) least.0 least.1.among in
    let here : get_or (x ∷ xs) place.0 0 ≡ least.0 = at_place (x ∷ xs) place.0 least.0 place.2 in (
      drop place.0 (x ∷ xs) ++ take place.0 (x ∷ xs),
      record {
        place = place.0;
        inside = place.1;
        least = λ v held. subst (λ m. m ≤ v) (sym here) (least.1.least v held refl);
        whole = refl;
      },
    )

-- where not all are listed, there is a picked cycle
pub has_ring : (after : List (List ℕ)) (order : List ℕ) → IsBelow after (length after) → IsToposorted after order → ((x : ℕ) → x < length after → IsTrue (holds order x)) ⊎ ((ring : List ℕ) × IsRing after (holds order) ring)
has_ring after order low toposorted = by (first_below (is_set flags) (length after))
  where
    flags : List Bool
    flags = map (holds order) (below (length after))

    same : (x : ℕ) → is_set flags x ≡ holds order x
    same x = flags_same (length after) order (λ y held. inside_of after order y toposorted held) x

    by : ((x : ℕ) → x < length after → IsTrue (is_set flags x)) ⊎ ((x : ℕ) × IsFirstLeft (length after) (is_set flags) x) → ((x : ℕ) → x < length after → IsTrue (holds order x)) ⊎ ((ring : List ℕ) × IsRing after (holds order) ring)
    by (inl all) = inl (λ x inside. sym (same x) ∙ all x inside)
    by (inr (start, first)) =
        let walk : (passed : List ℕ) × (node : ℕ) × IsWalk after (is_set flags) start passed node = walk_on after flags start low (toposorted_goes_on after order (is_set flags) same toposorted) (length after) (replicate (length after) false) [] start 0 (walking_none after flags start (length after) refl first.inside first.left) (omega arith) in
        let place : (k : ℕ) × (k < length walk.0) × (slice_get walk.0 k ≡ Some walk.1) = held_at walk.0 walk.1 walk.2.back in
        let here : get_or walk.0 place.0 0 ≡ walk.1 = at_place walk.0 place.0 walk.1 place.2 in
        let turned : (ring : List ℕ) × IsRotated (drop place.0 walk.0) ring = can_be_turned (drop place.0 walk.0) (omega (arith, length-drop place.0 walk.0, place.1)) in
        inr (turned.0, ring_found after order flags start walk.1 walk.0 turned.0 place.0 same first walk.2 place.1 here turned.1)
