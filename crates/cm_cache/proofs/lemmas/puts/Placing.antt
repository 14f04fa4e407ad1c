-- Places of items in a list, and numbers by the use of an instance.
use Rattle.std.proofs.Common.{◌≡◌, ℕ, zero, suc, ◌+◌, ◌<◌, List, [], ◌∷◌, ◌++◌, Bool, true, false, cond, Option, Some, None, find, length, get_or, set, option_map, option_and_then, refl, sym, ◌∙◌, ap, arith, bytes_eq, subst, true≢false, Ordering, Less, Equal, Greater, is_eq}
use Rattle.std.specs.Ordering.{nat_cmp}
use Rattle.std.specs.Cmp.Lexicographic.{slice_cmp}
use Rattle.std.specs.BTreeMap.{BTreeMap, get}
use Rattle.std.proofs.lemmas.Map.Text.{is_eq-slice_cmp}
use Rattle.std.proofs.lemmas.Slice.Eq.{bytes_eq-Decides}
use Rattle.std.proofs.lemmas.Map.Lookups.{exact_unsigned}
use Rattle.std.proofs.lemmas.Option.{same_Some, none-some}
use Rattle.cm_decl.specs.Clashes.{or_else}
use Rattle.cm_world.specs.Edits.{edit_first}
use Rattle.cm_cache.specs.declared.places.Paths.{Paths}
use Rattle.cm_cache.specs.Places.{place_at, placed, place_of}

-- ---- the place of an item

module _ {A : Type 0} (p : A → Bool) where
  -- an item stands there, and it is the one that is found
  pub record IsAt (xs : List A) (k : ℕ) : Type 0 where
    pub bound : k < length xs
    pub found : (d : A) → find p xs ≡ Some (get_or xs k d)

  -- A place one further on is that of an item that passes, behind one that doesn't.
  before : (x : A) (xs : List A) (o : Option ℕ) (k : ℕ) → p x ≡ false → ((m : ℕ) → o ≡ Some m → IsAt xs m) → option_map (λ n. n + 1) o ≡ Some k → IsAt (x ∷ xs) k
  before x xs None k fails at e = absurd (none-some k e)
  before x xs (Some m) zero fails at e = let same : m + 1 ≡ 0 = same_Some (m + 1) 0 e in absurd (omega arith)
  before x xs (Some m) (suc k) fails at e =
      let same : m + 1 ≡ suc k = same_Some (m + 1) (suc k) e in
      let is : m ≡ k = omega arith in
      let there : IsAt xs k = at k (ap Some is) in
      record {
        bound = (let low : k < length xs = there.bound in omega arith);
        found = λ d. ap (λ t. cond t (Some x) (find p xs)) fails ∙ there.found d;
      }

  -- The place that is told is that of an item that passes, item by item.
  at_by : (t : Bool) (x : A) (xs : List A) (k : ℕ) → p x ≡ t → ((m : ℕ) → place_of p xs ≡ Some m → IsAt xs m) → cond t (Some 0) (option_map (λ n. n + 1) (place_of p xs)) ≡ Some k → IsAt (x ∷ xs) k
  at_by true x xs zero passes at e = record { bound = omega arith; found = λ d. ap (λ t. cond t (Some x) (find p xs)) passes }
  at_by true x xs (suc k) passes at e = let same : 0 ≡ suc k = same_Some 0 (suc k) e in absurd (omega arith)
  at_by false x xs k fails at e = before x xs (place_of p xs) k fails at e

  -- the place is that of the item which is found
  pub place_is : (xs : List A) (k : ℕ) → place_of p xs ≡ Some k → IsAt xs k
  place_is [] k e = absurd (none-some k e)
  place_is (x ∷ xs) k e = at_by (p x) x xs k refl (place_is xs) e

  -- A place that is none when it is counted one further is none.
  mapped_none : (o : Option ℕ) → option_map (λ n. n + 1) o ≡ None → o ≡ None
  mapped_none None e = refl
  mapped_none (Some n) e = absurd (none-some (n + 1) (sym e))

  -- Where no place is told, no item is found, item by item.
  unplaced_by : (t : Bool) (x : A) (o : Option ℕ) (found : Option A) → (o ≡ None → found ≡ None) → cond t (Some 0) (option_map (λ n. n + 1) o) ≡ None → cond t (Some x) found ≡ None
  unplaced_by true x o found later e = absurd (none-some 0 (sym e))
  unplaced_by false x o found later e = later (mapped_none o e)

  -- without a place nothing is found
  pub unplaced : (xs : List A) → place_of p xs ≡ None → find p xs ≡ None
  unplaced [] e = refl
  unplaced (x ∷ xs) e = unplaced_by (p x) x (place_of p xs) (find p xs) (unplaced xs) e

  -- Where no item is found, no place is told, item by item.
  unfound_by : (t : Bool) (x : A) (o : Option ℕ) (found : Option A) → (found ≡ None → o ≡ None) → cond t (Some x) found ≡ None → cond t (Some 0) (option_map (λ n. n + 1) o) ≡ None
  unfound_by true x o found later e = absurd (none-some x (sym e))
  unfound_by false x o found later e = ap (option_map (λ n. n + 1)) (later e)

  -- and where nothing is found there is no place
  pub unfound : (xs : List A) → find p xs ≡ None → place_of p xs ≡ None
  unfound [] e = refl
  unfound (x ∷ xs) e = unfound_by (p x) x (place_of p xs) (find p xs) (unfound xs) e

  -- The place so far or else the last one, counted one further, is each of them counted one further.
  last_by : (t : Bool) (o : Option ℕ) (n : ℕ) → option_map (λ k. k + 1) (or_else o (cond t (Some n) None)) ≡ or_else (option_map (λ k. k + 1) o) (cond t (Some (suc n)) None)
  last_by t (Some k) n = refl
  last_by true None n = ap Some (let e : n + 1 ≡ suc n = omega arith in e)
  last_by false None n = refl

  -- An item pushed at the end has the last place, where none before it passes, item by item.
  push_by : (t : Bool) (xs : List A) (y : A) (o : Option ℕ) → o ≡ or_else (place_of p xs) (cond (p y) (Some (length xs)) None) → cond t (Some 0) (option_map (λ n. n + 1) o) ≡ or_else (cond t (Some 0) (option_map (λ n. n + 1) (place_of p xs))) (cond (p y) (Some (suc (length xs))) None)
  push_by true xs y o later = refl
  push_by false xs y o later = ap (option_map (λ n. n + 1)) later ∙ last_by (p y) (place_of p xs) (length xs)

  -- with one item more, which is last
  pub place_push : (xs : List A) (y : A) → place_of p (xs ++ y ∷ []) ≡ or_else (place_of p xs) (cond (p y) (Some (length xs)) None)
  place_push [] y = refl
  place_push (x ∷ xs) y = push_by (p x) xs y (place_of p (xs ++ y ∷ [])) (place_push xs y)

  -- a change that no test tells keeps each place
  module _ (q : A → Bool) (f : A → A) (same : (x : A) → p (f x) ≡ p x) where
    -- An edit of one item leaves the place of the first that passes, item by item.
    edited_by : (t : Bool) (x : A) (xs : List A) → place_of p (edit_first q f xs) ≡ place_of p xs → place_of p (cond t (f x ∷ xs) (x ∷ edit_first q f xs)) ≡ place_of p (x ∷ xs)
    edited_by true x xs later = ap (λ t. cond t (Some 0) (option_map (λ n. n + 1) (place_of p xs))) (same x)
    edited_by false x xs later = ap (λ o. cond (p x) (Some 0) (option_map (λ n. n + 1) o)) later

    -- An edit of one item that doesn't change whether items pass leaves the place of the first.
    pub place-edited : (xs : List A) → place_of p (edit_first q f xs) ≡ place_of p xs
    place-edited [] = refl
    place-edited (x ∷ xs) = edited_by (q x) x xs (place-edited xs)

  -- a write at the place of the item that is found
  module _ (f : A → A) where
    -- To set an item behind one that doesn't pass is to edit the first that passes behind it.
    set_before : (x : A) (xs : List A) (o : Option ℕ) (k : ℕ) (y : A) → ((m : ℕ) → o ≡ Some m → y ≡ f (get_or xs m y) → set xs m y ≡ edit_first p f xs) → option_map (λ n. n + 1) o ≡ Some k → y ≡ f (get_or (x ∷ xs) k y) → set (x ∷ xs) k y ≡ x ∷ edit_first p f xs
    set_before x xs None k y later e is = absurd (none-some k e)
    set_before x xs (Some m) zero y later e is = let same : m + 1 ≡ 0 = same_Some (m + 1) 0 e in absurd (omega arith)
    set_before x xs (Some m) (suc k) y later e is =
        let same : m + 1 ≡ suc k = same_Some (m + 1) (suc k) e in
        let there : m ≡ k = omega arith in
        ap (λ ys. x ∷ ys) (later k (ap Some there) is)

    -- To set the item at the place to what it is edited to is to edit it, item by item.
    set_by : (t : Bool) (x : A) (xs : List A) (k : ℕ) (y : A) → ((m : ℕ) → place_of p xs ≡ Some m → y ≡ f (get_or xs m y) → set xs m y ≡ edit_first p f xs) → cond t (Some 0) (option_map (λ n. n + 1) (place_of p xs)) ≡ Some k → y ≡ f (get_or (x ∷ xs) k y) → set (x ∷ xs) k y ≡ cond t (f x ∷ xs) (x ∷ edit_first p f xs)
    set_by true x xs zero y later e is = ap (λ z. z ∷ xs) is
    set_by true x xs (suc k) y later e is = let same : 0 ≡ suc k = same_Some 0 (suc k) e in absurd (omega arith)
    set_by false x xs k y later e is = set_before x xs (place_of p xs) k y later e is

    -- To set the item at the place of the first that passes to its edit is to edit that first one.
    pub set_at_place : (xs : List A) (k : ℕ) (y : A) → place_of p xs ≡ Some k → y ≡ f (get_or xs k y) → set xs k y ≡ edit_first p f xs
    set_at_place [] k y e is = absurd (none-some k e)
    set_at_place (x ∷ xs) k y e is = set_by (p x) x xs k y (λ m. set_at_place xs m y) e is

-- ---- numbers by the use of an instance

-- Of two tests that don't both hold the order doesn't matter.
either_first : (a b : Bool) (x y z : Option ℕ) → (a ≡ true → b ≡ false) → cond a x (cond b y z) ≡ cond b y (cond a x z)
either_first true true x y z apart = absurd (true≢false (apart refl))
either_first true false x y z apart = refl
either_first false b x y z apart = refl

-- A truth value that isn't true is false.
not_so : (b : Bool) → (b ≡ true → ⊥) → b ≡ false
not_so true never = absurd (never refl)
not_so false never = refl

-- A text that is the first isn't another one.
apart_from : (first path q : List ℕ) → bytes_eq first path ≡ false → bytes_eq first q ≡ true → bytes_eq path q ≡ false
apart_from first path q other is =
    let same : first ≡ q = (bytes_eq-Decides first q).0 is in
    not_so (bytes_eq path q) (λ e. true≢false (sym ((bytes_eq-Decides first path).1 (same ∙ sym ((bytes_eq-Decides path q).0 e))) ∙ other))

-- A test that is made twice says the same twice.
twice : (b : Bool) (x y z : Option ℕ) → cond b x z ≡ cond b x (cond b y z)
twice true x y z = refl
twice false x y z = refl

-- the first path has another number
pub first_put : (first : List ℕ) (place : ℕ) (m : BTreeMap (List ℕ) ℕ) (path : List ℕ) (k : ℕ) → bytes_eq first path ≡ true → (q : List ℕ) → cond (bytes_eq first q) (Some k) (get (slice_cmp nat_cmp) m q) ≡ cond (bytes_eq path q) (Some k) (cond (bytes_eq first q) (Some place) (get (slice_cmp nat_cmp) m q))
first_put first place m path k same q =
    subst (λ p. cond (bytes_eq first q) (Some k) (get (slice_cmp nat_cmp) m q) ≡ cond (bytes_eq p q) (Some k) (cond (bytes_eq first q) (Some place) (get (slice_cmp nat_cmp) m q)))
    ((bytes_eq-Decides first path).0 same) (twice (bytes_eq first q) (Some k) (Some place) (get (slice_cmp nat_cmp) m q))

-- one path more has a number
pub number_put : (first : List ℕ) (place : ℕ) (m n : BTreeMap (List ℕ) ℕ) (path : List ℕ) (k : ℕ) → bytes_eq first path ≡ false → ((q : List ℕ) → get (slice_cmp nat_cmp) n q ≡ cond (is_eq (slice_cmp nat_cmp path q)) (Some k) (get (slice_cmp nat_cmp) m q)) → (q : List ℕ) → cond (bytes_eq first q) (Some place) (get (slice_cmp nat_cmp) n q) ≡ cond (bytes_eq path q) (Some k) (cond (bytes_eq first q) (Some place) (get (slice_cmp nat_cmp) m q))
number_put first place m n path k other puts q =
    ap (cond (bytes_eq first q) (Some place)) (puts q ∙ ap (λ t. cond t (Some k) (get (slice_cmp nat_cmp) m q)) (is_eq-slice_cmp path q))
    ∙ either_first (bytes_eq first q) (bytes_eq path q) (Some place) (Some k) (get (slice_cmp nat_cmp) m q) (apart_from first path q other)

-- An order that says equal is the equal one.
equal_by : (o : Ordering) → is_eq o ≡ true → o ≡ Equal
equal_by Less e = absurd (true≢false (sym e))
equal_by Equal e = refl
equal_by Greater e = absurd (true≢false (sym e))

-- Where an instance's index is put anew with the same place for a path, that place stays.
same_by : (t : Bool) (i j : ℕ) (was now : Paths) (o : Option Paths) (q : List ℕ) → is_eq (nat_cmp i j) ≡ t → (i ≡ j → o ≡ Some was) → place_at now q ≡ place_at was q → option_and_then (λ paths. place_at paths q) (cond t (Some now) o) ≡ option_and_then (λ paths. place_at paths q) o
same_by true i j was now o q is there same =
    same ∙ sym (ap (λ x. option_and_then (λ paths. place_at paths q) x) (there (exact_unsigned i j (equal_by (nat_cmp i j) is))))
same_by false i j was now o q is there same = refl

-- the numbers of one instance, written back as they were
pub written_back : (m n : BTreeMap ℕ Paths) (i : ℕ) (was now : Paths) → get nat_cmp m i ≡ Some was → ((j : ℕ) → get nat_cmp n j ≡ cond (is_eq (nat_cmp i j)) (Some now) (get nat_cmp m j)) → ((q : List ℕ) → place_at now q ≡ place_at was q) → (j : ℕ) (q : List ℕ) → placed n j q ≡ placed m j q
written_back m n i was now there writes same j q =
    ap (option_and_then (λ paths. place_at paths q)) (writes j)
    ∙ same_by (is_eq (nat_cmp i j)) i j was now (get nat_cmp m j) q refl (λ e. subst (λ k. get nat_cmp m k ≡ Some was) e there) (same q)
