-- The first item that passes a test, taken away at its place.
use Rattle.std.proofs.Common.{◌≡◌, ℕ, zero, suc, ◌+◌, ◌<◌, ◌==◌, List, [], ◌∷◌, length, Bool, true, false, Option, Some, None, IsTrue, refl, sym, ap, ◌∙◌, arith, get_or, subst, le_of_suc-le-suc, zero-lt-suc, suc-le-suc}
use Rattle.std.specs.Prelude.{find, remove, All, is_some, if◌then◌else◌}
use Rattle.std.specs.Option.{IfNone}
use Rattle.std.specs.Cmp.{unsigned_Decides}
use Rattle.std.specs.List.{position}
use Rattle.std.proofs.lemmas.List.Quantifiers.{position-Some}
use Rattle.cm_world.specs.Edits.{drop_first}

module _ {A : Type 0} (p : A → Bool) where
  -- To remove the item at the first place where a test passes is to drop the first that passes it.
  pub drop_first-at : (xs : List A) (i : ℕ) (d : A) → i < length xs → p (get_or xs i d) ≡ true → ((k : ℕ) → k < i → p (get_or xs k d) ≡ false) → remove xs i ≡ drop_first p xs
  drop_first-at [] i d lt hit none = absurd (omega arith)
  drop_first-at (x ∷ xs) zero d lt hit none = rw hit refl
  drop_first-at (x ∷ xs) (suc i) d lt hit none =
      let miss : p x ≡ false = none 0 (zero-lt-suc i) in
      rw miss (ap (λ ys. x ∷ ys) (drop_first-at xs i d (le_of_suc-le-suc lt) hit (λ k less. none (suc k) (suc-le-suc less))))

  -- Where no item passes the test, taking away the first that does changes nothing.
  drop_first-none : (xs : List A) → All (λ x. p x ≡ false) xs → xs ≡ drop_first p xs
  drop_first-none [] none = refl
  drop_first-none (x ∷ xs) none =
      let miss : p x ≡ false = none 0 x (zero-lt-suc (length xs)) in
      rw miss (ap (λ ys. x ∷ ys) (drop_first-none xs (λ k d less. none (suc k) d (suc-le-suc less))))

  -- what was removed at the place that `position` gave
  pub removed : (xs ys : List A) (r : Option ℕ) (i : ℕ) (d : A) → r ≡ position p xs → r ≡ Some i → ys ≡ remove xs i → ys ≡ drop_first p xs
  removed xs ys r i d place some is =
      let found = position-Some p xs i d (sym place ∙ some) in
      is ∙ drop_first-at xs i d found.0 found.1 found.2

  -- nothing was removed where it gave none
  pub unremoved : (xs : List A) (r : Option ℕ) → IfNone r (All (λ x. p x ≡ false) xs) → r ≡ None → xs ≡ drop_first p xs
  unremoved xs r none is = drop_first-none xs (subst (λ o. IfNone o (All (λ x. p x ≡ false) xs)) is none)

  -- one item goes
  pub length-drop_first : (xs : List A) → IsTrue (is_some (find p xs)) → length (drop_first p xs) + 1 ≡ length xs
  length-drop_first [] found = absurd (cc)
  length-drop_first (y ∷ ys) found =
      elim (p y) as (λ b. p y ≡ b → length (if b then ys else y ∷ drop_first p ys) + 1 ≡ length (y ∷ ys)) [
        | true ↦ λ (e : p y ≡ true). omega arith
        | false ↦ λ (e : p y ≡ false).
            let later : IsTrue (is_some (find p ys)) = rw e at found in
            let rest : length (drop_first p ys) + 1 ≡ length ys = length-drop_first ys later in
            omega arith
      ] refl

-- A list whose length is zero is empty.
pub empty_list : {A : Type 0} (xs : List A) → true ≡ (length xs == 0) → xs ≡ []
empty_list [] e = refl
empty_list (x ∷ xs) e =
    let none : length (x ∷ xs) ≡ 0 = (unsigned_Decides (length (x ∷ xs)) 0).0 (sym e) in absurd (omega arith)
