-- The item of a key, found by binary search.
use Rattle.std.proofs.Common.{◌≡◌, ℕ, zero, suc, ◌+◌, ◌<◌, ◌≤◌, List, [], ◌∷◌, ◌++◌, length, Bool, true, false, cond, ◌==◌, true≢false, Option, Some, None, IsSome, is_some, refl, sym, ap, ◌∙◌, subst, arith, get_or, le_of_suc-le-suc, zero-lt-suc, suc-le-suc, find, ◌-◌, leb, leb-false, leb-true, ne_eqb, le_of_lt, ne_of_lt}
use Rattle.std.specs.Prelude.{slice_get}
use Rattle.std.specs.List.{flat_map}
use Rattle.std.specs.List.Sorted.{IsNonDecreasingBy}
use Rattle.std.specs.Cmp.{unsigned_Decides}
use Rattle.std.proofs.lemmas.List.{get_or_default}
use Rattle.std.proofs.lemmas.Option.{slice_get_within, slice_get-get_or}
use Rattle.cm_facts.proofs.Options.{cond_is_some, cond_some_more}
use Rattle.cm_table.specs.Keys.{item_of, first_key, alone, nth, reaches, Increasing, Filled, IsItemAt, IsPlace}

-- ---- single facts

-- A value that can't be there is none.
pub no_some : {A : Type 0} (o : Option A) → (IsSome o → ⊥) → o ≡ None
no_some None h = refl
no_some (Some x) h = absurd (h refl)

-- No number is below another and at least as great.
both_ways : (n m : ℕ) → n < m → m ≤ n → ⊥
both_ways n m less other = absurd (omega arith)

-- A number other than zero is one more than the number one below it.
pub one_less : (k : ℕ) → (k ≡ 0 → ⊥) → (suc (k - 1) ≡ k)
one_less k differ = omega arith

-- ---- two lists

-- Something is found with an item in front, where it was found so before.
some_more : {A : Type 0} (t : Bool) (x : A) (o p : Option A) → (IsSome o → IsSome p) → IsSome (cond t (Some x) o) → IsSome (cond t (Some x) p)
some_more true x o p later h = refl
some_more false x o p later h = later h

-- Where none is found in the first of two lists, what is found is the second's, if so in the rest.
none_by : {A : Type 0} (t : Bool) (x : A) (o all p : Option A) → (o ≡ None → all ≡ p) → cond t (Some x) o ≡ None → cond t (Some x) all ≡ p
none_by true x o all p later e = absurd (true≢false (ap is_some e))
none_by false x o all p later e = later e

module _ {Y : Type 0} (key : Y → ℕ) where
  -- A key that a list has is there with more items before it too.
  pub some_left : (xs ys : List Y) (j : ℕ) → IsSome (item_of key ys j) → IsSome (item_of key (xs ++ ys) j)
  some_left [] ys j h = h
  some_left (x ∷ xs) ys j h = cond_is_some (key x == j) x (item_of key (xs ++ ys) j) (some_left xs ys j h)

  -- A key that a list has is there with more items behind it too.
  pub some_right : (xs ys : List Y) (j : ℕ) → IsSome (item_of key xs j) → IsSome (item_of key (xs ++ ys) j)
  some_right [] ys j h = absurd (true≢false (sym h))
  some_right (x ∷ xs) ys j h = some_more (key x == j) x (item_of key xs j) (item_of key (xs ++ ys) j) (some_right xs ys j) h

  -- Where keys increase along two lists put together, they do along the second.
  pub increasing_back : (xs ys : List Y) → Increasing key (xs ++ ys) → Increasing key ys
  increasing_back [] ys r = r
  increasing_back (x ∷ xs) ys r = increasing_back xs ys r.1

  -- Where keys increase along two lists put together, they do along the first.
  pub increasing_prefix : (xs ys : List Y) → Increasing key (xs ++ ys) → Increasing key xs
  increasing_prefix [] ys r = tt
  increasing_prefix (x ∷ xs) ys r = (λ j h. r.0 j (some_right xs ys j h), increasing_prefix xs ys r.1)

  -- A key in front is lower than one behind it, if so in the rest.
  before_by : (t : Bool) (x : Y) (i j : ℕ) (o : Option Y) → (key x == i) ≡ t → key x < j → (IsSome o → i < j) → IsSome (cond t (Some x) o) → i < j
  before_by true x i j o same low later h = subst (λ n. n < j) ((unsigned_Decides (key x) i).0 same) low
  before_by false x i j o same low later h = later h

  -- what stands in front is lower
  pub before : (xs ys : List Y) (i j : ℕ) → Increasing key (xs ++ ys) → IsSome (item_of key xs i) → IsSome (item_of key ys j) → i < j
  before [] ys i j r h g = absurd (true≢false (sym h))
  before (x ∷ xs) ys i j r h g = before_by (key x == i) x i j (item_of key xs i) refl (r.0 j (some_left xs ys j g)) (λ k. before xs ys i j r.1 k g) h

  -- Where the second of two lists hasn't a key, the item of the key in both is that of the first.
  pub append_none : (xs ys : List Y) (i : ℕ) → item_of key ys i ≡ None → item_of key (xs ++ ys) i ≡ item_of key xs i
  append_none [] ys i e = e
  append_none (x ∷ xs) ys i e = ap (cond (key x == i) (Some x)) (append_none xs ys i e)

  -- Where the first of two lists hasn't a key, the item of the key in both is that of the second.
  pub none_append : (xs ys : List Y) (i : ℕ) → item_of key xs i ≡ None → item_of key (xs ++ ys) i ≡ item_of key ys i
  none_append [] ys i e = refl
  none_append (x ∷ xs) ys i e = none_by (key x == i) x (item_of key xs i) (item_of key (xs ++ ys) i) (item_of key ys i) (none_append xs ys i) e

  -- The item that a key has in a list is the item that it has with more items behind.
  pub some_prefix : (xs ys : List Y) (i : ℕ) (y : Y) → item_of key xs i ≡ Some y → item_of key (xs ++ ys) i ≡ Some y
  some_prefix [] ys i y at = absurd (true≢false (sym (ap is_some at)))
  some_prefix (x ∷ xs) ys i y at =
      cond_some_more (key x == i) x y (item_of key xs i) (item_of key (xs ++ ys) i) (some_prefix xs ys i y) at

  -- ---- a list of parts

  -- A list has an item with the key of its head.
  pub own : (s : Y) (ss : List Y) → IsSome (item_of key (s ∷ ss) (key s))
  own s ss = rw ((unsigned_Decides (key s) (key s)).1 refl) refl

  -- A list that isn't empty has an item with its first key.
  pub starts : (b : List Y) → 0 < length b → IsSome (item_of key b (first_key key b))
  starts [] h = absurd (omega arith)
  starts (s ∷ ss) h = own s ss

  -- Where keys increase, no item has a key below the first one.
  low_none : (b ys : List Y) (i : ℕ) → 0 < length b → Increasing key (b ++ ys) → i < first_key key b → item_of key (b ++ ys) i ≡ None
  low_none [] ys i h r low = absurd (omega arith)
  low_none (s ∷ ss) ys i h r low =
      let miss : (key s == i) ≡ false = ne_eqb (key s) i (λ e. ne_of_lt low (sym e)) in
      rw miss (no_some (item_of key (ss ++ ys) i) (λ g. let up : key s < i = r.0 i g in absurd (omega arith)))

  module _ {X : Type 0} (f : X → List Y) where
    -- At the first key of a part stands an item of all parts.
    pub part_starts : (xs : List X) (j : ℕ) (d : X) → Filled f xs → j < length xs → IsSome (item_of key (flat_map f xs) (first_key key (f (get_or xs j d))))
    part_starts [] j d filled lt = absurd (omega arith)
    part_starts (x ∷ xs) zero d filled lt = some_right (f x) (flat_map f xs) (first_key key (f x)) (starts (f x) filled.0)
    part_starts (x ∷ xs) (suc j) d filled lt = some_left (f x) (flat_map f xs) (first_key key (f (get_or xs j d))) (part_starts xs j d filled.1 (le_of_suc-le-suc lt))

    -- the parts begin higher and higher
    pub begin_higher : (xs : List X) → Filled f xs → Increasing key (flat_map f xs) → IsNonDecreasingBy (λ x. first_key key (f x)) xs
    begin_higher [] filled r i j d le lt = absurd (omega arith)
    begin_higher (x ∷ xs) filled r zero zero d le lt = omega arith
    begin_higher (x ∷ xs) filled r zero (suc j) d le lt =
        le_of_lt (before (f x) (flat_map f xs) (first_key key (f x)) (first_key key (f (get_or xs j d))) r (starts (f x) filled.0) (part_starts xs j d filled.1 (le_of_suc-le-suc lt)))
    begin_higher (x ∷ xs) filled r (suc i) zero d le lt = absurd (omega arith)
    begin_higher (x ∷ xs) filled r (suc i) (suc j) d le lt = begin_higher xs filled.1 (increasing_back (f x) (flat_map f xs) r) i j d (le_of_suc-le-suc le) (le_of_suc-le-suc lt)

    -- nothing is below the first
    pub none_low : (xs : List X) (i : ℕ) → Filled f xs → Increasing key (flat_map f xs) → ((j : ℕ) (d : X) → j < length xs → i < first_key key (f (get_or xs j d))) → item_of key (flat_map f xs) i ≡ None
    none_low [] i filled r high = refl
    none_low (x ∷ xs) i filled r high = low_none (f x) (flat_map f xs) i filled.0 r (high 0 x (zero-lt-suc (length xs)))

    -- Where no part begins at a key or below, no item has that key.
    pub none_at_zero : (xs : List X) (i : ℕ) → Filled f xs → Increasing key (flat_map f xs) → IsPlace key f xs i 0 → item_of key (flat_map f xs) i ≡ None
    none_at_zero xs i filled r p = none_low xs i filled r (λ j d lt. p.high j d (omega arith) lt)

    -- A place among parts is, without the first part, a place one lower.
    pub tail_place : (x : X) (xs : List X) (i k : ℕ) → IsPlace key f (x ∷ xs) i (suc k) → IsPlace key f xs i k
    tail_place x xs i k p = record {
      bound = le_of_suc-le-suc p.bound;
      low = λ j d lt. p.low (suc j) d (suc-le-suc lt);
      high = λ j d le lt. p.high (suc j) d (suc-le-suc le) (suc-le-suc lt);
    }

    -- where a later part begins at the key or below, the first one has no such item
    pub none_in_prefix : (x : X) (xs : List X) (i k : ℕ) → Filled f (x ∷ xs) → Increasing key (flat_map f (x ∷ xs)) → IsPlace key f (x ∷ xs) i (suc (suc k)) → item_of key (f x) i ≡ None
    none_in_prefix x xs i k filled r p =
        let q : IsPlace key f xs i (suc k) = tail_place x xs i (suc k) p in
        let few : suc k ≤ length xs = q.bound in
        let le : first_key key (f (get_or xs 0 x)) ≤ i = q.low 0 x (zero-lt-suc k) in
        no_some (item_of key (f x) i) (λ h.
        both_ways i (first_key key (f (get_or xs 0 x))) (before (f x) (flat_map f xs) i (first_key key (f (get_or xs 0 x))) r h (part_starts xs 0 x filled.1 (omega arith))) le)

    -- the item stands in the last part that begins at its key or below
    pub in_last : (xs : List X) (i k : ℕ) (d : X) → Filled f xs → Increasing key (flat_map f xs) → IsPlace key f xs i (suc k) → item_of key (flat_map f xs) i ≡ item_of key (f (get_or xs k d)) i
    in_last [] i k d filled r p = let b : suc k ≤ 0 = p.bound in absurd (omega arith)
    in_last (x ∷ xs) i zero d filled r p =
        append_none (f x) (flat_map f xs) i (none_at_zero xs i filled.1 (increasing_back (f x) (flat_map f xs) r) (tail_place x xs i 0 p))
    in_last (x ∷ xs) i (suc k) d filled r p =
        none_append (f x) (flat_map f xs) i (none_in_prefix x xs i k filled r p) ∙ in_last xs i k d filled.1 (increasing_back (f x) (flat_map f xs) r) (tail_place x xs i (suc k) p)

    -- and that part rises
    pub part_increasing : (xs : List X) (k : ℕ) (d : X) → k < length xs → Increasing key (flat_map f xs) → Increasing key (f (get_or xs k d))
    part_increasing [] k d lt r = absurd (omega arith)
    part_increasing (x ∷ xs) zero d lt r = increasing_prefix (f x) (flat_map f xs) r
    part_increasing (x ∷ xs) (suc k) d lt r = part_increasing xs k d (le_of_suc-le-suc lt) (increasing_back (f x) (flat_map f xs) r)

    -- an item of that part is the item of its key
    pub in_part : (xs : List X) (i k : ℕ) (d : X) (y : Y) → Increasing key (flat_map f xs) → k < length xs → item_of key (f (get_or xs k d)) i ≡ Some y → item_of key (flat_map f xs) i ≡ Some y
    in_part [] i k d y r lt at = absurd (omega arith)
    in_part (x ∷ xs) i zero d y r lt at = some_prefix (f x) (flat_map f xs) i y at
    in_part (x ∷ xs) i (suc k) d y r lt at =
        let later : item_of key (flat_map f xs) i ≡ Some y = in_part xs i k d y (increasing_back (f x) (flat_map f xs) r) (le_of_suc-le-suc lt) at in
        none_append (f x) (flat_map f xs) i
        (no_some (item_of key (f x) i)
        (λ h. let up : i < i = before (f x) (flat_map f xs) i i r h (ap is_some later) in absurd (omega arith)))
        ∙ later

    -- the place before the count, as `IsPlace` at a successor
    pub place_before : (xs : List X) (i k : ℕ) → (k ≡ 0 → ⊥) → IsPlace key f xs i k → IsPlace key f xs i (suc (k - 1))
    place_before xs i k differ p = subst (IsPlace key f xs i) (sym (one_less k differ)) p

    -- A place that is zero, as a search finds it, is so by that number.
    pub place_zero : (xs : List X) (i k : ℕ) → k ≡ 0 → IsPlace key f xs i k → IsPlace key f xs i 0
    place_zero xs i k e p = subst (IsPlace key f xs i) e p

    -- ---- an interpolated place

    -- A place whose part begins at a key or below is within the parts.
    there : (xs : List X) (i k : ℕ) (o : Option X) → slice_get xs k ≡ o → reaches key f i o ≡ true → k < length xs
    there xs i k None at here = absurd (true≢false (sym here))
    there xs i k (Some x) at here = slice_get_within xs k x at

    -- A part within the list begins at a key or below exactly where its first key is at most that.
    reaches_at : (xs : List X) (i k : ℕ) (d : X) → k < length xs → reaches key f i (slice_get xs k) ≡ leb (first_key key (f (get_or xs k d))) i
    reaches_at xs i k d lt = ap (reaches key f i) (slice_get-get_or xs k d lt)

    -- where a part begins at the key or below and the next one doesn't, it is the last that does
    pub between : (xs : List X) (i k : ℕ) → Filled f xs → Increasing key (flat_map f xs) → reaches key f i (slice_get xs k) ≡ true → reaches key f i (slice_get xs (k + 1)) ≡ false → IsPlace key f xs i (suc k)
    between xs i k filled r here beyond =
        let within : k < length xs = there xs i k (slice_get xs k) refl here in
        record {
          bound = omega (arith, within);
          low = λ j d less.
              let up : first_key key (f (get_or xs j d)) ≤ first_key key (f (get_or xs k d)) = begin_higher xs filled r j k d (omega arith) within in
              let own : first_key key (f (get_or xs k d)) ≤ i = leb-true _ _ (sym (reaches_at xs i k d within) ∙ here) in
              omega arith;
          high = λ j d le lt.
              let next : k + 1 < length xs = omega arith in
              let up : first_key key (f (get_or xs (k + 1) d)) ≤ first_key key (f (get_or xs j d)) = begin_higher xs filled r (k + 1) j d (omega arith) lt in
              let own : i < first_key key (f (get_or xs (k + 1) d)) = leb-false _ _ (sym (reaches_at xs i (k + 1) d next) ∙ beyond) in
              omega arith;
        }

  -- ---- items as parts

  -- Lists of one item each, put together, are the list of these items.
  pub alone_all : (ss : List Y) → flat_map alone ss ≡ ss
  alone_all [] = refl
  alone_all (s ∷ ss) = ap (λ l. s ∷ l) (alone_all ss)

  -- None of the lists of one item each is empty.
  pub alone_filled : (ss : List Y) → Filled alone ss
  alone_filled [] = tt
  alone_filled (s ∷ ss) = (omega arith, alone_filled ss)

  -- An item alone is found by its key.
  found_alone : (s : Y) (i : ℕ) → (key s ≡ i) → item_of key (alone s) i ≡ Some s
  found_alone s i e = rw ((unsigned_Decides (key s) i).1 e) refl

  -- An item alone isn't found by another key.
  none_alone : (s : Y) (i : ℕ) → (key s ≡ i → ⊥) → item_of key (alone s) i ≡ None
  none_alone s i e = rw (ne_eqb (key s) i e) refl

  -- Where the place that a binary search finds is the first, no item has the key.
  pub item_none : (ss : List Y) (i k : ℕ) → Increasing key ss → k ≡ 0 → IsPlace key alone ss i k → item_of key ss i ≡ None
  item_none ss i k r e p =
      ap (λ l. item_of key l i) (sym (alone_all ss)) ∙ none_at_zero alone ss i (alone_filled ss) (subst (Increasing key) (sym (alone_all ss)) r) (place_zero alone ss i k e p)

  -- The item of a key is the one before the place that the search has found, if it has that key.
  item_last : (ss : List Y) (i k : ℕ) (s : Y) → Increasing key ss → (k ≡ 0 → ⊥) → IsPlace key alone ss i k → s ≡ get_or ss (k - 1) s → item_of key ss i ≡ item_of key (alone s) i
  item_last ss i k s r differ p is =
      ap (λ l. item_of key l i) (sym (alone_all ss))
      ∙ in_last alone ss i (k - 1) s (alone_filled ss) (subst (Increasing key) (sym (alone_all ss)) r) (place_before alone ss i k differ p)
      ∙ ap (λ z. item_of key (alone z) i) (sym is)

  -- the item at the place before the count has the key
  pub is_at : (ss : List Y) (i k : ℕ) (s : Y) → Increasing key ss → (k ≡ 0 → ⊥) → IsPlace key alone ss i k → s ≡ get_or ss (k - 1) s → key s ≡ i → IsItemAt key ss i (k - 1)
  is_at ss i k s r differ p is own =
      let lt : k - 1 < length ss = omega (arith, p.bound) in
      let same : (d : Y) → s ≡ get_or ss (k - 1) d = λ d. is ∙ get_or_default ss (k - 1) s d lt in
      record {
        bound = lt;
        own = λ d. ap key (sym (same d)) ∙ own;
        found = λ d. item_last ss i k s r differ p is ∙ found_alone s i own ∙ ap Some (same d);
      }

  -- it has another one, so none has the key
  pub none_last : (ss : List Y) (i k : ℕ) (s : Y) → Increasing key ss → (k ≡ 0 → ⊥) → IsPlace key alone ss i k → s ≡ get_or ss (k - 1) s → (key s ≡ i → ⊥) → item_of key ss i ≡ None
  none_last ss i k s r differ p is other = item_last ss i k s r differ p is ∙ none_alone s i other

  -- Keys that increase along a list don't decrease along it.
  pub increasing_alone : (ss : List Y) → Increasing key ss → IsNonDecreasingBy key ss
  increasing_alone ss r = begin_higher alone ss (alone_filled ss) (subst (Increasing key) (sym (alone_all ss)) r)

  -- ---- items by their places

  -- The key of an item within the list has an item.
  some_at : (ss : List Y) (j : ℕ) (d : Y) → j < length ss → IsSome (item_of key ss (key (get_or ss j d)))
  some_at [] j d lt = absurd (omega arith)
  some_at (s ∷ ss) zero d lt = own s ss
  some_at (s ∷ ss) (suc j) d lt = cond_is_some (key s == key (get_or ss j d)) s (item_of key ss (key (get_or ss j d))) (some_at ss j d (le_of_suc-le-suc lt))

  -- keys rise by places
  pub strictly : (ss : List Y) (j k : ℕ) (d : Y) → Increasing key ss → j < k → k < length ss → key (get_or ss j d) < key (get_or ss k d)
  strictly [] j k d r less lt = absurd (omega arith)
  strictly (s ∷ ss) j zero d r less lt = absurd (omega arith)
  strictly (s ∷ ss) zero (suc k) d r less lt = r.0 (key (get_or ss k d)) (some_at ss k d (le_of_suc-le-suc lt))
  strictly (s ∷ ss) (suc j) (suc k) d r less lt = strictly ss j k d r.1 (le_of_suc-le-suc less) (le_of_suc-le-suc lt)

  -- those before the place of a key have others
  pub others_before : (ss : List Y) (k : ℕ) (d : Y) (i : ℕ) → Increasing key ss → k < length ss → key (get_or ss k d) ≡ i → (j : ℕ) → j < k → (key (get_or ss j d) == i) ≡ false
  others_before ss k d i r lt here j less =
      ne_eqb (key (get_or ss j d)) i (λ e. ne_of_lt (strictly ss j k d r less lt) (e ∙ sym here))

-- ---- the first item that passes a test which fails up to a place, and passes from there on

-- Where no item before a place passes a test, and the one there does, that one is found.
pub find-nth : {Y : Type 0} (p : Y → Bool) (ss : List Y) (k : ℕ) (d : Y) → k ≤ length ss → ((j : ℕ) → j < k → p (get_or ss j d) ≡ false) → (k < length ss → p (get_or ss k d) ≡ true) → find p ss ≡ nth ss k
find-nth p [] k d le low high = refl
find-nth p (s ∷ ss) zero d le low high = rw (high (zero-lt-suc (length ss))) refl
find-nth p (s ∷ ss) (suc k) d le low high =
    rw (low 0 (zero-lt-suc k)) (find-nth p ss k d (le_of_suc-le-suc le) (λ j less. low (suc j) (suc-le-suc less)) (λ lt. high (suc-le-suc lt)))

-- At each place below a list's length there is an item.
pub nth-some : {Y : Type 0} (ss : List Y) (k : ℕ) (d : Y) → k < length ss → nth ss k ≡ Some (get_or ss k d)
nth-some [] k d lt = absurd (omega arith)
nth-some (s ∷ ss) zero d lt = refl
nth-some (s ∷ ss) (suc k) d lt = nth-some ss k d (le_of_suc-le-suc lt)

-- an item that stands at a place is the one of its key
pub at_place : {Y : Type 0} (key : Y → ℕ) (ss : List Y) (i k : ℕ) (s : Y) → Increasing key ss → k < length ss → s ≡ get_or ss k s → key s ≡ i → IsItemAt key ss i k
at_place key ss i k s r lt is own =
    let same : (d : _) → s ≡ get_or ss k d = λ d. is ∙ get_or_default ss k s d lt in
    let here : (d : _) → key (get_or ss k d) ≡ i = λ d. ap key (sym (same d)) ∙ own in
    record {
      bound = lt;
      own = here;
      found = λ d. find-nth (λ y. key y == i) ss k d (le_of_lt lt) (others_before key ss k d i r lt (here d)) (λ le. (unsigned_Decides (key (get_or ss k d)) i).1 (here d)) ∙ nth-some ss k d lt;
    }

-- The place behind an item is that of its key among the items as parts.
pub place_behind : {Y : Type 0} (key : Y → ℕ) (ss : List Y) (i k : ℕ) (e : Y) → Increasing key ss → k < length ss → key (get_or ss k e) ≡ i → IsPlace key alone ss i (k + 1)
place_behind key ss i k e r lt own =
    let here : (d : _) → key (get_or ss k d) ≡ i = λ d. ap key (sym (get_or_default ss k e d lt)) ∙ own in
    record {
      bound = omega (arith, lt);
      low = λ j d less.
          let up : key (get_or ss j d) ≤ key (get_or ss k d) = increasing_alone key ss r j k d (omega arith) lt in
          let at : key (get_or ss k d) ≡ i = here d in
          let it : key (get_or ss j d) ≤ i = omega arith in
          it;
      high = λ j d le within.
          let up : key (get_or ss k d) < key (get_or ss j d) = strictly key ss k j d r (omega arith) within in
          let at : key (get_or ss k d) ≡ i = here d in
          let it : i < key (get_or ss j d) = omega arith in
          it;
    }
