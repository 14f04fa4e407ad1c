use Rattle.std.proofs.Common.{◌≡◌, ℕ, zero, suc, ◌+◌, ◌<◌, ◌≤◌, List, [], ◌∷◌, ◌++◌, length, take, ◌||◌, refl, sym, ◌∙◌, ap, subst, arith, get_or, nat_eq}
use Rattle.std.specs.Prelude.{reverse}
use Rattle.std.proofs.Math.Bool.{or_comm}
use Rattle.std.proofs.lemmas.List.{reverse-append, take_more, take_all}
use Rattle.std.proofs.lemmas.Option.{slice_get-get_or}
use Rattle.cm_deps.specs.Edges.{holds, IsNext, IsReverseTopological}
use Rattle.cm_deps.specs.Implied.{IsTopological}
use Rattle.cm_deps.proofs.lemmas.listed.Listing.{holds_push}

-- A list with one item more at its end, turned around, begins with that item.
reverse_push : (xs : List ℕ) (y : ℕ) → reverse (xs ++ y ∷ []) ≡ y ∷ reverse xs
reverse_push xs y = reverse-append xs (y ∷ [])

-- a reversed list holds the same
pub holds_reverse : (xs : List ℕ) (x : ℕ) → holds (reverse xs) x ≡ holds xs x
holds_reverse [] x = refl
holds_reverse (y ∷ ys) x =
    ap (λ l. holds l x) (reverse-append (y ∷ []) ys) ∙ holds_push (reverse ys) y x ∙ ap (λ b. b || nat_eq x y) (holds_reverse ys x) ∙ or_comm (holds ys x) (nat_eq x y)

-- The first nodes of a reverse topological order, turned around, are in topological order.
falls_prefix : (rows : List (List ℕ)) (order : List ℕ) → IsReverseTopological rows order → (k : ℕ) → k ≤ length order → IsTopological rows (reverse (take k order))
falls_prefix rows order grown zero low = tt
falls_prefix rows order grown (suc k) low =
    let within : k < length order = omega arith in
    let more : suc k ≡ k + 1 = omega arith in
    let prefix : take (suc k) order ≡ take k order ++ get_or order k 0 ∷ [] = ap (λ n. take n order) more ∙ take_more order k 0 within in
    let next : IsNext rows (take k order) (get_or order k 0) = grown k (get_or order k 0) (slice_get-get_or order k 0 within) in
    let whole : reverse (take (suc k) order) ≡ get_or order k 0 ∷ reverse (take k order) = ap reverse prefix ∙ reverse_push (take k order) (get_or order k 0) in
    subst (λ l. IsTopological rows l) (sym whole)
    (holds_reverse (take k order) (get_or order k 0) ∙ next.new, (λ y on. holds_reverse (take k order) y ∙ next.ready y on), falls_prefix rows order grown k (omega arith))

-- a list in which each stands behind what it depends on falls when it is reversed
pub reverse_falls : (rows : List (List ℕ)) (order : List ℕ) → IsReverseTopological rows order → IsTopological rows (reverse order)
reverse_falls rows order grown =
    subst (λ l. IsTopological rows (reverse l)) (take_all (length order) order (let all : length order ≤ length order = omega arith in all)) (falls_prefix rows order grown (length order) (let all : length order ≤ length order = omega arith in all))
