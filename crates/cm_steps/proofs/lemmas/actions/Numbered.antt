-- Actions that are numbered from 1 on stand at the places below their numbers.
use Rattle.std.proofs.Common.{◌≡◌, ℕ, zero, suc, ◌+◌, ◌-◌, ◌<◌, ◌≤◌, ◌==◌, List, [], ◌∷◌, length, Bool, true, false, cond, Some, None, find, refl, sym, ap, ◌∙◌, arith, get_or, le_of_suc-le-suc, zero-lt-suc, suc-le-suc, ne_eqb, le_of_lt}
use Rattle.std.specs.Prelude.{nat_lt}
use Rattle.std.specs.List.{position, position_or_len}
use Rattle.std.specs.Cmp.{unsigned_Decides}
use Rattle.std.proofs.lemmas.Bool.{lt-ltb, le-ltb}
use Rattle.std.proofs.lemmas.List.Sums.{position_or_len_is}
use Rattle.std.proofs.lemmas.List.Quantifiers.{position-Some}
use Rattle.cm_world.specs.declared.action.Act.{Act}
use Rattle.cm_laws.specs.Tasks.{IsNumbered}
use Rattle.cm_table.proofs.lemmas.lists.BinarySearch.{find-nth, nth-some}

-- ---- the first item that passes

-- Where no item of a list passes a test, there is no first place of one that does.
pub no_place : {A : Type 0} (p : A → Bool) (xs : List A) → ((k : ℕ) (d : A) → k < length xs → p (get_or xs k d) ≡ false) → position p xs ≡ None
no_place p [] none = refl
no_place p (x ∷ xs) none =
    let n : ℕ = length (x ∷ xs) in
    let e : position_or_len p (x ∷ xs) ≡ n = position_or_len_is p (x ∷ xs) n x (omega arith) (λ k lt. none k x lt) (λ lt. absurd (omega arith)) in
    ap (λ i. cond (nat_lt i n) (Some i) None) e ∙ ap (λ b. cond b (Some n) None) (le-ltb n n (omega arith))

-- A place at which an item passes a test, and below which none does, is the first such place.
pub one_place : {A : Type 0} (p : A → Bool) (xs : List A) (i : ℕ) (d : A) → i < length xs → p (get_or xs i d) ≡ true → ((k : ℕ) → k < i → p (get_or xs k d) ≡ false) → position p xs ≡ Some i
one_place p xs i d lt hit others =
    let e : position_or_len p xs ≡ i = position_or_len_is p xs i d (le_of_lt lt) others (λ h. hit) in
    ap (λ n. cond (nat_lt n (length xs)) (Some n) None) e ∙ ap (λ b. cond b (Some i) None) (lt-ltb i (length xs) lt)

-- Where no item of a list passes a test, none is found by it.
pub find_none : {A : Type 0} (p : A → Bool) (xs : List A) → ((k : ℕ) (d : A) → k < length xs → p (get_or xs k d) ≡ false) → find p xs ≡ None
find_none p [] none = refl
find_none p (x ∷ xs) none =
    ap (λ b. cond b (Some x) (find p xs)) (none 0 x (zero-lt-suc (length xs))) ∙ find_none p xs (λ k d lt. none (suc k) d (suc-le-suc lt))

-- The item at the first place of one that passes a test is the one that is found.
pub find_some : {A : Type 0} (p : A → Bool) (xs : List A) (i : ℕ) (d : A) → position p xs ≡ Some i → find p xs ≡ Some (get_or xs i d)
find_some p xs i d e =
    let at = position-Some p xs i d e in
    find-nth p xs i d (le_of_lt at.0) at.2 (λ lt. at.1) ∙ nth-some xs i d at.0

-- ---- numbers

-- The action at a place has the first number and so many more.
number_at : (n : ℕ) (xs : List Act) (k : ℕ) (d : Act) → IsNumbered n xs → k < length xs → (get_or xs k d).action ≡ n + k
number_at n [] k d all lt = absurd (omega arith)
number_at n (x ∷ xs) zero d all lt = all.0 ∙ none_more n where
  none_more : (m : ℕ) → m ≡ m + 0
  none_more m = omega arith
number_at n (x ∷ xs) (suc k) d all lt = number_at (n + 1) xs k d all.1 (le_of_suc-le-suc lt) ∙ one_more n k where
  one_more : (m j : ℕ) → m + 1 + j ≡ m + suc j
  one_more m j = omega arith

-- Of actions numbered from 1 on none has a number that isn't one above the place of one of them.
pub others_there : (xs : List Act) (a : ℕ) → IsNumbered 1 xs → ((k : ℕ) → k < length xs → a ≡ suc k → ⊥) → (k : ℕ) (d : Act) → k < length xs → ((get_or xs k d).action == a) ≡ false
others_there xs a all differ k d lt =
    ne_eqb (get_or xs k d).action a (λ e. differ k lt (sym e ∙ number_at 1 xs k d all lt ∙ from_one k)) where
      from_one : (j : ℕ) → 1 + j ≡ suc j
      from_one j = omega arith

-- No action has the number 0.
pub not_zero : (a n : ℕ) → a ≡ 0 → (k : ℕ) → k < n → a ≡ suc k → ⊥
not_zero a n e k lt same = absurd (omega arith)

-- A number above a count isn't one above any number below that count.
pub not_above : (a n : ℕ) → n < a → (k : ℕ) → k < n → a ≡ suc k → ⊥
not_above a n high k lt same = absurd (omega arith)

-- The action of a number stands at the place of that number less one.
pub place_of : (xs : List Act) (a : ℕ) → IsNumbered 1 xs → (a ≡ 0 → ⊥) → a ≤ length xs → position (λ (x : Act). x.action == a) xs ≡ Some (a - 1)
place_of [] a all some le = absurd (some (omega arith))
place_of (x ∷ xs) a all some le =
    let lt : a - 1 < length (x ∷ xs) = inside a (length (x ∷ xs)) some le in
    one_place (λ (y : Act). y.action == a) (x ∷ xs) (a - 1) x lt
    ((unsigned_Decides (get_or (x ∷ xs) (a - 1) x).action a).1 (number_at 1 (x ∷ xs) (a - 1) x all lt ∙ back a some))
    (λ k less. ne_eqb (get_or (x ∷ xs) k x).action a (λ e. lower a k some less (sym e ∙ number_at 1 (x ∷ xs) k x all (within k (a - 1) (length (x ∷ xs)) less lt)))) where
      inside : (b n : ℕ) → (b ≡ 0 → ⊥) → b ≤ n → b - 1 < n
      inside b n h g = omega arith

      back : (b : ℕ) → (b ≡ 0 → ⊥) → 1 + (b - 1) ≡ b
      back b h = omega arith

      lower : (b k : ℕ) → (b ≡ 0 → ⊥) → k < b - 1 → b ≡ 1 + k → ⊥
      lower b k h less e = absurd (omega arith)

      within : (k m n : ℕ) → k < m → m < n → k < n
      within k m n h g = omega arith
