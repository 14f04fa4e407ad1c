-- The ends of lists.
use Rattle.std.proofs.Common.{◌≡◌, ◌-◌, ◌+◌, ◌<◌, ◌≤◌, ℕ, get_or, take, slice_get, Some, List, [], ◌∷◌, ◌++◌, length, map, reverse, Bool, ◌&&◌, refl, sym, ap, ◌∙◌, arith, length-append}
use Rattle.std.proofs.lemmas.List.{take_more, map-append, reverse-append}
use Rattle.std.proofs.Math.Seq.{take-append_seam}
use Rattle.std.proofs.Math.Bool.{and_assoc, and-true}
use Rattle.std.specs.Cmp.Lexicographic.{pointwise}

module _ {A B : Type 0} where
  -- what is seen of a reversed list
  pub map-reverse : (f : A → B) (xs : List A) → map f (reverse xs) ≡ reverse (map f xs)
  map-reverse f [] = refl
  map-reverse f (x ∷ xs) = ap (map f) (reverse-append (x ∷ []) xs) ∙ map-append f (reverse xs) (x ∷ []) ∙ ap (λ ys. ys ++ f x ∷ []) (map-reverse f xs)
      ∙ sym (reverse-append (f x ∷ []) (map f xs))

  -- lists of one length are compared at their last items, and before these
  pub pointwise-last : (E : A → B → Bool) (xs : List A) (ys : List B) (x : A) (y : B) → length xs ≡ length ys
      → pointwise E (xs ++ x ∷ []) (ys ++ y ∷ []) ≡ (pointwise E xs ys && E x y)
  pointwise-last E [] [] x y e = and-true (E x y)
  pointwise-last E [] (b ∷ ys) x y e = absurd (omega arith)
  pointwise-last E (a ∷ xs) [] x y e = absurd (omega arith)
  pointwise-last E (a ∷ xs) (b ∷ ys) x y e =
      ap (λ c. E a b && c) (pointwise-last E xs ys x y (omega arith)) ∙ sym (and_assoc (E a b) (pointwise E xs ys) (E x y))

  -- Two lists of the same length are so without the last item of each.
  pub shorter : (xs : List A) (x : A) (ys : List B) (y : B) {us : List A} {vs : List B} → us ≡ xs ++ x ∷ [] → vs ≡ ys ++ y ∷ []
      → length us ≡ length vs → length xs ≡ length ys
  shorter xs x ys y p q e =
      omega (arith, ap length p, ap length q, length-append xs (x ∷ []), length-append ys (y ∷ []))

  -- where the last items are equal, or not
  pub pointwise-below : (xs : List A) (x : A) (ys : List B) (y : B) {us : List A} {vs : List B} (E : A → B → Bool) → us ≡ xs ++ x ∷ []
      → vs ≡ ys ++ y ∷ [] → length xs ≡ length ys → pointwise E us vs ≡ (pointwise E xs ys && E x y)
  pointwise-below xs x ys y {us} {vs} E p q e =
      ap (λ l. pointwise E l vs) p ∙ ap (pointwise E (xs ++ x ∷ [])) q ∙ pointwise-last E xs ys x y e

module _ {A : Type 0} where
  -- A list with one item more is, but for one, as long as it was.
  one_less : (xs : List A) (x : A) → length (xs ++ x ∷ []) - 1 ≡ length xs
  one_less xs x = omega (arith, length-append xs (x ∷ []))

  -- In a list with one item more at its end, that item stands at the place of the old length.
  at_seam : (xs : List A) (x : A) → slice_get (xs ++ x ∷ []) (length xs) ≡ Some x
  at_seam [] x = refl
  at_seam (y ∷ xs) x = at_seam xs x

  -- the last item of a list, and those before it
  pub last-push : (xs : List A) (x : A) → slice_get (xs ++ x ∷ []) (length (xs ++ x ∷ []) - 1) ≡ Some x
  last-push xs x = ap (slice_get (xs ++ x ∷ [])) (one_less xs x) ∙ at_seam xs x

  -- A list with one more item at its end is the list again without its last item.
  pub init-push : (xs : List A) (x : A) → take (length (xs ++ x ∷ []) - 1) (xs ++ x ∷ []) ≡ xs
  init-push xs x = ap (λ n. take n (xs ++ x ∷ [])) (one_less xs x) ∙ take-append_seam xs (x ∷ [])

  -- the items up to one are those before it, and it
  pub one-more : (xs : List A) (n : ℕ) (x : A) → 0 < n → n ≤ length xs → x ≡ get_or xs (n - 1) x
      → take n xs ≡ take (n - 1) xs ++ x ∷ []
  one-more xs n x some within same =
      let at : n - 1 + 1 ≡ n = omega arith in
      sym (ap (λ k. take k xs) at) ∙ take_more xs (n - 1) x (omega arith) ∙ ap (λ y. take (n - 1) xs ++ y ∷ []) (sym same)
