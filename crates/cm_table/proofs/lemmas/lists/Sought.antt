-- Items found by binary search in an order of their places.
use Rattle.std.proofs.Common.{◌≡◌, ℕ, ◌<◌, ◌≤◌, List, [], ◌∷◌, length, Bool, true, false, cond, true≢false, Option, Some, None, refl, sym, ap, ap₂, ◌∙◌, subst, arith, get_or, nat_cmp, Ordering, Less, Equal, Greater, zero-add}
use Rattle.std.specs.Prelude.{slice_get, position, nat_lt}
use Rattle.std.specs.List.{Contains, position_or_len, range_with_len}
use Rattle.std.specs.List.Sorted.{IsPartitionedBy, IsPermutation, IsSorted}
use Rattle.std.specs.Option.{option_map_or}
use Rattle.std.specs.Ordering.{is_lt, ordering_then, ordering_reverse}
use Rattle.std.specs.Cmp.{IsTotalOrder, IsStrictWeakOrder}
use Rattle.std.proofs.lemmas.Bool.{lt-ltb, ltb-true, ltb-false}
use Rattle.std.proofs.lemmas.Bool.Decides.{nat_tests}
use Rattle.std.proofs.lemmas.Cmp.{then_total, on_total, nat_cmp_total}
use Rattle.std.proofs.lemmas.List.FromFn.{length-range_with_len, get_or-range_with_len}
use Rattle.std.proofs.lemmas.List.Sums.{position_or_len_is, passes_at_first}
use Rattle.std.proofs.lemmas.List.Sorted.{ranks_by, sorted_far, Contains-permutation, IsPermutation-sym}
use Rattle.std.proofs.lemmas.Option.{slice_get_within, slice_get-get_or, get_or_from_slice_get}
use Rattle.cm_facts.proofs.Orders.{then_not_less}
use Rattle.cm_world.proofs.lemmas.trees.Finding.{none_some}
use Rattle.cm_table.specs.Orders.{place_cmp_by, IsSplitBy, IsOrderBy}

-- ---- single comparisons

-- what is neither before nor behind is the same
squeeze : (a b n : Ordering) → a ≡ ordering_reverse b → is_lt b ≡ false → is_lt (ordering_then a n) ≡ false → (b ≡ Equal) × (is_lt n ≡ false)
squeeze a Less n back low high = absurd (true≢false low)
squeeze a Equal n back low high = (refl, ap (λ o. is_lt (ordering_then o n)) (sym back) ∙ high)
squeeze a Greater n back low high = absurd (true≢false (ap (λ o. is_lt (ordering_then o n)) (sym back) ∙ high))

-- A number that isn't less than another, as they compare, is at least as great.
at_most : (m k : ℕ) → is_lt (nat_cmp k m) ≡ false → m ≤ k
at_most m k h = grind (arith, nat_tests)

-- ---- places by binary search

-- what the item at a place is looked for by
abbrev key_at : {X K : Type 0} → (Option X → K) → List X → ℕ → K
key_at key items k = key (slice_get items k)

module _ {X K : Type 0} (key : Option X → K) (cmp : K → K → Ordering) (total : IsTotalOrder cmp) where
  -- What is looked for is weakly ordered by what comes first.
  key_weak : IsStrictWeakOrder (λ (x : K) (y : K). is_lt (cmp x y))
  key_weak = ranks_by total (λ (x : K). x)

  -- Nothing that is looked for comes before itself.
  not_itself : (w : K) → is_lt (cmp w w) ≡ true → ⊥
  not_itself w e = true≢false (sym e ∙ key_weak.one_way w w e)

  -- Where the order of keys is total, that of places by the keys of their items is a strict weak one.
  pub place_weak : (items : List X) → IsStrictWeakOrder (λ (x : ℕ) (y : ℕ). is_lt (place_cmp_by key cmp items x y))
  place_weak items = ranks_by (then_total (on_total (λ (k : ℕ). key (slice_get items k)) total) nat_cmp_total) (λ (x : ℕ). x)

  module _ (items : List X) (places : List ℕ) (o : IsOrderBy key cmp items places) (w : K) where
    -- What passes where it would fail if another failed makes that other pass.
    lower_before : (x y : Bool) → x ≡ true → (y ≡ false → x ≡ false) → y ≡ true
    lower_before x true h f = refl
    lower_before x false h f = absurd (true≢false (sym h ∙ f refl))

    -- The places are parted: first those of items before what is looked for, then the others.
    pub parted : IsPartitionedBy (λ k. is_lt (cmp (key (slice_get items k)) w)) places
    parted i j d le lt h =
        let a = get_or places i d in
        let b = get_or places j d in
        let far : is_lt (cmp (key_at key items b) (key_at key items a)) ≡ false =
        then_not_less (cmp (key_at key items b) (key_at key items a)) (nat_cmp b a)
        (sorted_far (λ (x : ℕ) (y : ℕ). is_lt (place_cmp_by key cmp items x y)) (place_weak items) places o.sorted i j d le lt) in
        lower_before (is_lt (cmp (key_at key items b) w)) (is_lt (cmp (key_at key items a) w)) h
        (λ e. key_weak.chain (key_at key items b) (key_at key items a) w far e)

    module _ (q : X → Bool) (exact : (x : X) → q x ≡ true → key (Some x) ≡ w) (back : (x : X) → cmp (key (Some x)) w ≡ Equal → q x ≡ true) (count : ℕ) (point : IsSplitBy key cmp items places w count) where
      -- An item that passes the test is what is looked for, by its key.
      is_sought : (k : ℕ) (x : X) → slice_get items k ≡ Some x → q x ≡ true → key_at key items k ≡ w
      is_sought k x at passes = ap key at ∙ exact x passes

      -- an item that is looked for isn't before the place that was found
      behind : (k : ℕ) (x : X) (at : slice_get items k ≡ Some x) (passes : q x ≡ true) (c : Contains places k) → count ≤ c.0
      behind k x at passes c = by (nat_lt c.0 count) refl where
        by : (t : Bool) → nat_lt c.0 count ≡ t → count ≤ c.0
        by false e = ltb-false c.0 count e
        by true e =
            let low : is_lt (cmp (key_at key items (get_or places c.0 k)) w) ≡ true = point.0 c.0 k (omega arith) (ltb-true c.0 count e) in
            absurd (not_itself w (ap (λ s. is_lt (cmp s w)) (sym (ap (key_at key items) c.2 ∙ is_sought k x at passes)) ∙ low))

      -- The place of each item is among the places.
      there : (k : ℕ) (x : X) → slice_get items k ≡ Some x → Contains places k
      there k x at = o.all k (slice_get_within items k x at)

      -- Where an item passes the test, the place that was found is within the places.
      in_range : (k : ℕ) (x : X) → slice_get items k ≡ Some x → q x ≡ true → count < length places
      in_range k x at passes =
          let c : Contains places k = there k x at in
          let le : count ≤ c.0 = behind k x at passes c in
          let lt : c.0 < length places = c.1 in
          omega arith

      -- the item at the place that was found is one too, and isn't behind it
      is_first : (k : ℕ) (x : X) → slice_get items k ≡ Some x → q x ≡ true → (m : ℕ) → slice_get places count ≡ Some m → (cmp (key_at key items m) w ≡ Equal) × (m ≤ k)
      is_first k x at passes m here =
          let c : Contains places k = there k x at in
          let le : count ≤ c.0 = behind k x at passes c in
          let own : get_or places count k ≡ m = get_or_from_slice_get places count m k here in
          let far : is_lt (place_cmp_by key cmp items k m) ≡ false =
          ap₂ (λ a b. is_lt (place_cmp_by key cmp items a b)) (sym c.2) (sym own)
          ∙ sorted_far (λ (x : ℕ) (y : ℕ). is_lt (place_cmp_by key cmp items x y)) (place_weak items) places o.sorted count c.0 k le c.1 in
          let high : is_lt (cmp (key_at key items m) w) ≡ false =
          ap (λ a. is_lt (cmp (key_at key items a) w)) (sym own) ∙ point.1 count k (omega arith) (slice_get_within places count m here) in
          let both = squeeze (cmp (key_at key items k) (key_at key items m)) (cmp (key_at key items m) w) (nat_cmp k m)
          (ap (λ s. cmp s (key_at key items m)) (is_sought k x at passes) ∙ total.antisymm w (key_at key items m)) high far in
          (both.0, at_most m k both.1)

      -- ---- what the search comes to

      -- Where no item passes, none is told, however the search's place compares with the length.
      none_by : ((k : ℕ) (x : X) → slice_get items k ≡ Some x → q x ≡ true → ⊥) → (t : Bool) → nat_lt (position_or_len q items) (length items) ≡ t → None ≡ cond t (Some (position_or_len q items)) None
      none_by never false e = refl
      none_by never true e = absurd (some items refl) where
        some : (l : List X) → items ≡ l → ⊥
        some [] same = let less : position_or_len q items < length items = ltb-true (position_or_len q items) (length items) e in let empty : length items ≡ 0 = ap length same in absurd (omega arith)
        some (d ∷ ds) same =
            let less : position_or_len q items < length items = ltb-true (position_or_len q items) (length items) e in
            never (position_or_len q items) (get_or items (position_or_len q items) d) (slice_get-get_or items (position_or_len q items) d less) (passes_at_first q items d less)

      -- Where no item passes the test, it has no place.
      none_passes : ((k : ℕ) (x : X) → slice_get items k ≡ Some x → q x ≡ true → ⊥) → None ≡ position q items
      none_passes never = none_by never (nat_lt (position_or_len q items) (length items)) refl

      -- behind all places
      pub none_behind : None ≡ slice_get places count → None ≡ position q items
      none_behind none = none_passes (λ k x at passes.
          none_some (get_or places count k) (none ∙ slice_get-get_or places count k (in_range k x at passes)))

      -- a place is one of an item
      none_there : (m : ℕ) → Some m ≡ slice_get places count → None ≡ slice_get items m → None ≡ position q items
      none_there m here none =
          let lt : count < length places = slice_get_within places count m (sym here) in
          let inside : m < length items = o.within m (count, lt, get_or_from_slice_get places count m m (sym here)) in
          none_passes (λ k x at passes. none_some (get_or items m x) (none ∙ slice_get-get_or items m x inside))

      -- another item stands there
      none_other : (m : ℕ) (x : X) → Some m ≡ slice_get places count → Some x ≡ slice_get items m → q x ≡ false → None ≡ position q items
      none_other m x here at fails =
          none_passes (λ k y there passes.
          let first = is_first k y there passes m (sym here) in
          true≢false (sym (back x (ap (λ s. cmp (key s) w) at ∙ first.0)) ∙ fails))

      -- An item in front of the one that was found fails the test.
      fails_by : (m k : ℕ) (x d : X) → Some m ≡ slice_get places count → Some x ≡ slice_get items m → k < m → (t : Bool) → q (get_or items k d) ≡ t → t ≡ false
      fails_by m k x d here at less false e = refl
      fails_by m k x d here at less true e =
          let bound : m < length items = slice_get_within items m x (sym at) in
          let first = is_first k (get_or items k d) (slice_get-get_or items k d (omega arith)) e m (sym here) in
          let le : m ≤ k = first.1 in
          absurd (omega arith)

      -- the item there
      some_there : (m : ℕ) (x : X) → Some m ≡ slice_get places count → Some x ≡ slice_get items m → q x ≡ true → Some m ≡ position q items
      some_there m x here at passes =
          let bound : m < length items = slice_get_within items m x (sym at) in
          let own : q (get_or items m x) ≡ true = ap q (get_or_from_slice_get items m x x (sym at)) ∙ passes in
          let first : position_or_len q items ≡ m =
          position_or_len_is q items m x (omega arith)
          (λ k less. let e = fails_by m k x x here at less (q (get_or items k x)) refl in e) (λ lt. own) in
          sym (ap (λ n. cond (nat_lt n (length items)) (Some n) None) first ∙ ap (λ t. cond t (Some m) None) (lt-ltb m (length items) bound))

      -- ---- by the answer of a test

      -- Where the item at the place that was found fails the test, or isn't there, no item passes.
      none_by_test : (m : ℕ) (x : Option X) → Some m ≡ slice_get places count → x ≡ slice_get items m → false ≡ option_map_or q x false → None ≡ position q items
      none_by_test m None here at fails = none_there m here at
      none_by_test m (Some x) here at fails = none_other m x here at (sym fails)

      -- Where what stands at the place that was found fails the test, the test has no place.
      pub none_tested : (m : ℕ) → Some m ≡ slice_get places count → false ≡ option_map_or q (slice_get items m) false → None ≡ position q items
      none_tested m here fails = none_by_test m (slice_get items m) here refl fails

      -- Where the item at the place that was found passes, that is the first that does, if it is there.
      some_by_test : (m : ℕ) (x : Option X) → Some m ≡ slice_get places count → x ≡ slice_get items m → true ≡ option_map_or q x false → Some m ≡ position q items
      some_by_test m None here at passes = absurd (true≢false passes)
      some_by_test m (Some x) here at passes = some_there m x here at (sym passes)

      -- Where what stands at the place that was found passes the test, that is the test's place.
      pub some_tested : (m : ℕ) → Some m ≡ slice_get places count → true ≡ option_map_or q (slice_get items m) false → Some m ≡ position q items
      some_tested m here passes = some_by_test m (slice_get items m) here refl passes

-- ---- the places in order

-- A number below a bound is among the range up to it.
range_has : (n k : ℕ) → k < n → Contains (range_with_len 0 n) k
range_has n k lt = (k, rw (length-range_with_len 0 n) lt, get_or-range_with_len 0 n k k lt ∙ zero-add k)

-- A number among the range up to a bound is below it.
range_within : (n k : ℕ) → Contains (range_with_len 0 n) k → k < n
range_within n k c =
    let lt : c.0 < n = subst (λ l. c.0 < l) (length-range_with_len 0 n) c.1 in
    let is : c.0 ≡ k = sym (zero-add c.0) ∙ sym (get_or-range_with_len 0 n c.0 k lt) ∙ c.2 in
    omega arith

-- All places of a list, sorted by the keys of their items, are the order of the items by their keys.
pub ordered : {X K : Type 0} (key : Option X → K) (cmp : K → K → Ordering) (items : List X) (places sorted : List ℕ) → places ≡ range_with_len 0 (length items) → IsPermutation places sorted → IsSorted (place_cmp_by key cmp items) sorted → IsOrderBy key cmp items sorted
ordered key cmp items places sorted are moved rises = record {
  all = λ k lt. Contains-permutation places sorted k moved (subst (λ l. Contains l k) (sym are) (range_has (length items) k lt));
  within = λ k has. range_within (length items) k (subst (λ l. Contains l k) are (Contains-permutation sorted places k (IsPermutation-sym places sorted moved) has));
  sorted = rises;
}
