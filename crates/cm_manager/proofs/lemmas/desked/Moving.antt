-- What goes over from list to list, item by item and in its order.
use Rattle.std.proofs.Common.{◌≡◌, ℕ, suc, ◌+◌, ◌≤◌, List, [], ◌∷◌, ◌++◌, map, length, sym, ap, ◌∙◌, append-nil, append_assoc, arith}
use Rattle.std.proofs.lemmas.List.{map-append, length-append, nil_from_length}

-- the first item of a list goes to the end of another
pub moved : {A : Type 0} (done done' left left' all : List A) (x : A) → done ++ left ≡ all → done' ≡ done ++ x ∷ [] → left ≡ x ∷ left' → done' ++ left' ≡ all
moved done done' left left' all x is more less =
    ap (λ (l : List _). l ++ left') more ∙ append_assoc done (x ∷ []) left' ∙ ap (λ (l : List _). done ++ l) (sym less) ∙ is

-- With one item moved, which the other list sees as the first one sees it, what was moved and what is left
-- are all.
pub moved_as : {A B : Type 0} (f : A → B) (done done' : List A) (left left' all : List B) (x : A) → map f done ++ left ≡ all → done' ≡ done ++ x ∷ [] → left ≡ f x ∷ left' → map f done' ++ left' ≡ all
moved_as f done done' left left' all x is more less =
    moved (map f done) (map f done') left left' all (f x) is (ap (map f) more ∙ map-append f done (x ∷ [])) less

-- Where nothing is left to move, what was moved is all.
pub all_moved : {A : Type 0} (done left all : List A) → done ++ left ≡ all → length left ≡ 0 → done ≡ all
all_moved done left all is none = sym (append-nil done) ∙ ap (λ (l : List _). done ++ l) (sym (nil_from_length left none)) ∙ is

-- two lists that lose one item each stay equally long
pub shorter : {A B : Type 0} (xs xs' : List A) (ys ys' : List B) (x : A) (y : B) → length xs ≡ length ys → xs ≡ x ∷ xs' → ys ≡ y ∷ ys' → length xs' ≡ length ys'
shorter xs xs' ys ys' x y long xs_is ys_is =
    let counts : suc (length xs') ≡ suc (length ys') = sym (ap (λ (l : List _). length l) xs_is) ∙ long ∙ ap (λ (l : List _). length l) ys_is in
    cc counts

-- With one item moved, the other list still has room for the rest.
pub fits_still : {A B : Type 0} (done done' : List A) (left left' : List B) (x : A) (y : B) (room room' : ℕ) → length done + length left ≤ room → done' ≡ done ++ x ∷ [] → left ≡ y ∷ left' → room' ≡ room → length done' + length left' ≤ room'
fits_still done done' left left' x y room room' is more less same =
    let longer : length done' ≡ length done + 1 = ap (λ (l : List _). length l) more ∙ length-append done (x ∷ []) in
    let fewer : length left ≡ suc (length left') = ap (λ (l : List _). length l) less in
    grind (arith, longer, fewer, same, is)
