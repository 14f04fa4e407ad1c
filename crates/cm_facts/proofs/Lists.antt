-- Lists: their lengths, their items by place, and what holds of all of them.
use Rattle.std.proofs.Common.{◌≡◌, ℕ, zero, suc, ◌+◌, ◌<◌, ◌==◌, Bool, true, false, cond, ◌||◌, List, [], ◌∷◌, ◌++◌, length, map, take, drop, Option, Some, None, IfSome, All, Contains, filter_map, slice_get, refl, sym, ap, subst, ◌∙◌, arith, rules, append-nil, take_all, ⊎_elim, find}
use Rattle.std.specs.List.{list_any}
use Rattle.std.specs.List.{cons_option}
use Rattle.std.proofs.lemmas.List.{drop_all, length-map, length_push}
use Rattle.std.proofs.lemmas.List.Elements.{All-nil, All-cons, All-head, All-tail, Contains-push_cases}
use Rattle.std.proofs.lemmas.Option.{get_or_from_slice_get, slice_get_within}

-- A list with an item isn't empty.
pub length_cons_zero : (b : ℕ) (bs : List ℕ) → (length (b ∷ bs) == 0) ≡ false
length_cons_zero b bs = grind (arith, rules)

-- A list with one item more is longer by one.
pub length_one_more : {A : Type 0} (xs : List A) (y : A) (n : ℕ) → length xs ≡ n → length (xs ++ y ∷ []) ≡ n + 1
length_one_more xs y n long = length_push xs y ∙ ap (λ k. k + 1) long

-- Lists of which the same list is made are equally long.
pub length_by_map : {A B C : Type 0} (f : A → C) (g : B → C) (xs : List A) (ys : List B)
    → map f xs ≡ map g ys → length xs ≡ length ys
length_by_map f g xs ys is = sym (length-map xs f) ∙ ap (λ (l : List _). length l) is ∙ length-map ys g

-- Equal lists have equal first items.
pub cons_first : {A : Type 0} (x y : A) (xs ys : List A) → x ∷ xs ≡ y ∷ ys → x ≡ y
cons_first x y xs ys e = cc e

-- A place within a list has an item.
pub slice_get_some : {A : Type 0} (xs : List A) (k : ℕ) → k < length xs → (x : A) × (slice_get xs k ≡ Some x)
slice_get_some [] k lt = absurd (omega (arith, lt))
slice_get_some (x ∷ xs) zero lt = (x, refl)
slice_get_some (x ∷ xs) (suc k) lt = slice_get_some xs k (grind (arith, lt))

-- The item that was put last, by its place.
pub slice_get_last : {A : Type 0} (xs : List A) (x : A) → slice_get (xs ++ x ∷ []) (length xs) ≡ Some x
slice_get_last [] x = refl
slice_get_last (y ∷ xs) x = slice_get_last xs x

-- As many bytes as were read over a list of the same length.
pub take_over : {A : Type 0} (xs ys : List A) (n : ℕ)
    → n ≡ length xs → length ys ≡ length xs → take n (ys ++ drop (length ys) xs) ≡ ys
take_over xs ys n is_n long = ap (λ (l : List _). take n (ys ++ l)) (drop_all (length ys) xs (omega (arith, long)))
    ∙ ap (take n) (append-nil ys) ∙ take_all n ys (omega (arith, is_n, long))

-- Two functions that agree make the same list.
pub map_agree : {A B : Type 0} (f g : A → B) → ((x : A) → f x ≡ g x) → (xs : List A) → map f xs ≡ map g xs
map_agree f g same [] = refl
map_agree f g same (x ∷ xs) = ap (λ y. y ∷ map f xs) (same x) ∙ ap (λ ys. g x ∷ ys) (map_agree f g same xs)

-- Two tests that agree find one among the same items.
pub list_any_agree : {A : Type 0} (p q : A → Bool) → ((x : A) → p x ≡ q x) → (xs : List A) → list_any p xs ≡ list_any q xs
list_any_agree p q same [] = refl
list_any_agree p q same (x ∷ xs) = ap (λ v. v || list_any p xs) (same x) ∙ ap (λ v. q x || v) (list_any_agree p q same xs)

-- A test of what is made of the items.
pub list_any_map : {A B : Type 0} (p : B → Bool) (f : A → B) (xs : List A) → list_any p (map f xs) ≡ list_any (λ x. p (f x)) xs
list_any_map p f [] = refl
list_any_map p f (x ∷ xs) = ap (λ v. p (f x) || v) (list_any_map p f xs)

-- The last item is found where none before it is.
pub find_last : {A : Type 0} (p : A → Bool) (xs : List A) (y : A) → find p xs ≡ None → p y ≡ true → find p (xs ++ y ∷ []) ≡ Some y
find_last p [] y none hit = ap (λ b. cond b (Some y) None) hit
find_last {A} p (x ∷ xs) y none hit = by (p x) none (find_last p xs y)
  where
    by : (t : Bool) → cond t (Some x) (find p xs) ≡ None → (find p xs ≡ None → p y ≡ true → find p (xs ++ y ∷ []) ≡ Some y)
        → cond t (Some x) (find p (xs ++ y ∷ [])) ≡ Some y
    by true e later = absurd (cc e)
    by false e later = later e hit

-- What holds of all holds of the one at a place.
pub All_slice_get : {A : Type 0} (P : A → Type 0) (xs : List A) (k : ℕ) (x : A) → All P xs → slice_get xs k ≡ Some x → P x
All_slice_get P xs k x all there = subst P (get_or_from_slice_get xs k x x there) (all k x (slice_get_within xs k x there))

-- What holds of one item holds of the list with it alone.
pub All_one : {A : Type 0} (P : A → Type 0) (x : A) → P x → All P (x ∷ [])
All_one P x holds = All-cons P x [] holds (All-nil P)

-- What holds of all by what holds of what they are made of.
pub All_map : {A B : Type 0} (P : A → Type 0) (Q : B → Type 0) (f : A → B) (xs : List A)
    → ((x : A) → P x → Q (f x)) → All P xs → All Q (map f xs)
All_map P Q f [] each all = All-nil Q
All_map P Q f (x ∷ xs) each all = All-cons Q (f x) (map f xs) (each x (All-head P x xs all))
    (All_map P Q f xs each (All-tail P x xs all))

-- An option before a list, of both of which it holds.
pub All_cons_option : {B : Type 0} (Q : B → Type 0) (o : Option B) (ys : List B) → IfSome o Q → All Q ys → All Q (cons_option o ys)
All_cons_option Q None ys here behind = behind
All_cons_option Q (Some y) ys here behind = All-cons Q y ys here behind

-- What holds of all that is made of some of the items.
pub All_filter_map : {A B : Type 0} (P : A → Type 0) (Q : B → Type 0) (f : A → Option B) (xs : List A)
    → ((x : A) → P x → IfSome (f x) Q) → All P xs → All Q (filter_map f xs)
All_filter_map P Q f [] each all = All-nil Q
All_filter_map P Q f (x ∷ xs) each all = All_cons_option Q (f x) (filter_map f xs) (each x (All-head P x xs all))
    (All_filter_map P Q f xs each (All-tail P x xs all))

-- An empty list contains nothing.
pub Contains_none : {A : Type 0} (x : A) → Contains [] x → ⊥
Contains_none x there = let low : there.0 < 0 = there.1 in absurd (omega arith)

-- A list of one has that one.
pub Contains_one : {A : Type 0} (x y : A) → Contains (x ∷ []) y → x ≡ y
Contains_one x y there = ⊎_elim (λ none. absurd (Contains_none y none)) (λ same. same) (Contains-push_cases [] x y there)
