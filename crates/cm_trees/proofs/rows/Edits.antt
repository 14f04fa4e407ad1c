-- A change of the first item that passes a test, made at its place.
use Rattle.std.proofs.Common.{◌≡◌, ℕ, zero, suc, ◌<◌, List, [], ◌∷◌, length, Bool, true, false, Option, Some, None, refl, sym, ap, ◌∙◌, arith, get_or, set, subst, le_of_suc-le-suc, zero-lt-suc, suc-le-suc}
use Rattle.std.specs.Prelude.{All, if◌then◌else◌}
use Rattle.std.specs.Option.{IfNone}
use Rattle.std.specs.List.{position}
use Rattle.std.proofs.lemmas.List.Quantifiers.{position-Some}
use Rattle.cm_world.specs.Edits.{edit_first}

module _ {A : Type 0} (p : A → Bool) (f : A → A) where
  -- To change the item at the first place where a test passes is to change the first that passes it.
  pub edit_first-at : (xs : List A) (i : ℕ) (d : A) → i < length xs → p (get_or xs i d) ≡ true → ((k : ℕ) → k < i → p (get_or xs k d) ≡ false) → set xs i (f (get_or xs i d)) ≡ edit_first p f xs
  edit_first-at [] i d lt hit none = absurd (omega arith)
  edit_first-at (x ∷ xs) zero d lt hit none = rw hit refl
  edit_first-at (x ∷ xs) (suc i) d lt hit none =
      let miss : p x ≡ false = none 0 (zero-lt-suc i) in
      rw miss (ap (λ ys. x ∷ ys) (edit_first-at xs i d (le_of_suc-le-suc lt) hit (λ k less. none (suc k) (suc-le-suc less))))

  -- Where no item passes the test, changing the first one that passes changes nothing.
  edit_first-none : (xs : List A) → All (λ x. p x ≡ false) xs → xs ≡ edit_first p f xs
  edit_first-none [] none = refl
  edit_first-none (x ∷ xs) none =
      let miss : p x ≡ false = none 0 x (zero-lt-suc (length xs)) in
      rw miss (ap (λ ys. x ∷ ys) (edit_first-none xs (λ k d less. none (suc k) d (suc-le-suc less))))

  -- what was written at the place that `position` gave
  pub written : (xs : List A) (r : Option ℕ) (i : ℕ) (x y : A) → r ≡ position p xs → r ≡ Some i → x ≡ get_or xs i x → y ≡ f x → set xs i y ≡ edit_first p f xs
  written xs r i x y place some at is =
      let found = position-Some p xs i x (sym place ∙ some) in
      ap (λ z. set xs i z) (is ∙ ap f at) ∙ edit_first-at xs i x found.0 found.1 found.2

  -- nothing was written where it gave none
  pub unwritten : (xs : List A) (r : Option ℕ) → IfNone r (All (λ x. p x ≡ false) xs) → r ≡ None → xs ≡ edit_first p f xs
  unwritten xs r none is = edit_first-none xs (subst (λ o. IfNone o (All (λ x. p x ≡ false) xs)) is none)

  -- no item comes or goes
  pub length-edit_first : (xs : List A) → length (edit_first p f xs) ≡ length xs
  length-edit_first [] = refl
  length-edit_first (x ∷ xs) =
      let rest : length (edit_first p f xs) ≡ length xs = length-edit_first xs in
      elim (p x) as (λ b. length (if b then f x ∷ xs else x ∷ edit_first p f xs) ≡ length (x ∷ xs)) [ true ↦ refl | false ↦ ap suc rest ]
