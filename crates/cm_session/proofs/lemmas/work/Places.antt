-- What stands at the places of lists.
use Rattle.std.proofs.Common.{◌≡◌, ℕ, suc, ◌<◌, List, [], ◌∷◌, All, Any, map, length, get_or, Option, Some, refl, sym, ap, ◌∙◌, arith}
use Rattle.std.specs.List.{slice_get}
use Rattle.std.proofs.lemmas.Option.{get_or_from_slice_get, slice_get-get_or, slice_get-map, slice_get_within, same_Some}
use Rattle.std.specs.Prelude.{option_map}
use Rattle.cm_facts.proofs.Lists.{length_by_map, slice_get_some}

-- What holds of the item at each place of a list holds of all its items.
pub all_places : {A : Type 0} (P : A → Type 0) (xs : List A) → ((k : ℕ) (x : A) → slice_get xs k ≡ Some x → P x) → All P xs
all_places P xs each k d lt = each k (get_or xs k d) (slice_get-get_or xs k d lt)

-- What holds of the item at one place of a list holds of some item of it.
pub any_place : {A : Type 0} (P : A → Type 0) (xs : List A) (k : ℕ) (x : A) → slice_get xs k ≡ Some x → P x → Any P xs
any_place P xs k x there is = (k, x, slice_get_within xs k x there, get_or_from_slice_get xs k x x there, is)

-- a list that is made of another, and what stands there
pub at_map : {A B : Type 0} (f : A → B) (xs : List A) (ys : List B) (k : ℕ) (x : A) → map f xs ≡ ys → slice_get xs k ≡ Some x → slice_get ys k ≡ Some (f x)
at_map f xs ys k x is there = ap (λ (l : List _). slice_get l k) (sym is) ∙ slice_get-map f xs k ∙ ap (option_map f) there

-- the field of what stands there, which is some item of the other list
pub field_at : {A B : Type 0} (f : A → Option B) (xs : List A) (ys : List B) (k : ℕ) (x : A) (y : B) → map f xs ≡ map Some ys → slice_get xs k ≡ Some x → slice_get ys k ≡ Some y → f x ≡ Some y
field_at f xs ys k x y is there here = same_Some (f x) (Some y) (sym (at_map f xs (map Some ys) k x is there) ∙ at_map Some ys (map Some ys) k y refl here)

-- At a place where a field tells the item of the other list, that item stands there.
pub item_at : {A B : Type 0} (f : A → Option B) (xs : List A) (ys : List B) (k : ℕ) (x : A) (y : B) → map f xs ≡ map Some ys → slice_get xs k ≡ Some x → f x ≡ Some y → slice_get ys k ≡ Some y
item_at f xs ys k x y is there here =
    let within : k < length ys = grind (arith, slice_get_within xs k x there, length_by_map f Some xs ys is) in
    let t = slice_get_some ys k within in
    t.1 ∙ ap Some (same_Some t.0 y (sym (field_at f xs ys k x t.0 is there t.1) ∙ here))

-- a property of what stands there, which is the same in both lists
pub map_same : {A B : Type 0} (f : A → B) (xs ys : List A) → length ys ≡ length xs → ((k : ℕ) (x y : A) → slice_get xs k ≡ Some x → slice_get ys k ≡ Some y → f y ≡ f x) → map f ys ≡ map f xs
map_same f [] [] long same = refl
map_same f [] (y ∷ ys) long same = absurd (cc long)
map_same f (x ∷ xs) [] long same = absurd (cc long)
map_same f (x ∷ xs) (y ∷ ys) long same =
    let here = same 0 x y refl refl in
    let rest = map_same f xs ys (cc long) (λ k a b. same (suc k) a b) in
    cc (here, rest)
