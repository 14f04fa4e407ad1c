-- Facts about lists of views, and about what a slot has.
use Rattle.std.proofs.Common.{◌≡◌, ◌≢◌, ◌⊎◌, ℕ, zero, suc, ◌+◌, ◌<◌, ◌≤◌, List, [], ◌∷◌, ◌++◌, length, map, set, Some, None, Option, refl, sym, ap, subst, inl, inr, ⊎_elim, arith}
use Rattle.std.specs.Prelude.{slice_index_or}
use mathlib.Core.Option.{some, some-ne-none, some-injective}
use lib.ListN.{get_elem?}
use Rattle.atomic_table.proofs.Lists.{at_set}
use Rattle.std.proofs.lemmas.Option.{same_Some}
use Rattle.cm_turn.specs.Rule.{total}

module _ {V : Type 0} where
  -- What holds of all views but one, and of what replaces that, holds of all views then.
  pub each_set : (P : ℕ → V → Type 0) (views : List V) (id : ℕ) (w : V) → ((j : ℕ) (u : V) → j ≢ id → get_elem? views j ≡ some u → P j u) → P id w → (j : ℕ) (u : V) → get_elem? (set views id w) j ≡ some u → P j u
  each_set P views id w others mine j u e =
      ⊎_elim
      (λ (x : (j ≡ id) × (w ≡ u)). subst (λ (y : ℕ × V). P y.0 y.1) (λ i. (sym x.0 i, x.1 i)) mine)
      (λ (x : (j ≢ id) × (get_elem? views j ≡ some u)). others j u x.0 x.1)
      (at_set views id j w u e)

  -- What stands at a place of a list with one item more stands there in the list, or is that item.
  pub at_snoc_here : (l : List V) (a b : V) (j : ℕ) → get_elem? (l ++ a ∷ []) j ≡ some b → (get_elem? l j ≡ some b) ⊎ ((j ≡ length l) × (a ≡ b))
  at_snoc_here [] a b zero e = inr (refl, some-injective a b e)
  at_snoc_here [] a b (suc j) e = absurd (some-ne-none b (sym e))
  at_snoc_here (x ∷ xs) a b zero e = inl e
  at_snoc_here (x ∷ xs) a b (suc j) e = ⊎_elim (λ t. inl t) (λ t. inr (ap suc t.0, t.1)) (at_snoc_here xs a b j e)

  -- What holds of all views at their places, and of one more behind them, holds of all.
  pub each_snoc : (P : ℕ → V → Type 0) (views : List V) (w : V) → ((j : ℕ) (u : V) → get_elem? views j ≡ some u → P j u) → P (length views) w → (j : ℕ) (u : V) → get_elem? (views ++ w ∷ []) j ≡ some u → P j u
  each_snoc P views w others mine j u e =
      ⊎_elim
      (λ (x : get_elem? views j ≡ some u). others j u x)
      (λ (x : (j ≡ length views) × (w ≡ u)). subst (λ (y : ℕ × V). P y.0 y.1) (λ i. (sym x.0 i, x.1 i)) mine)
      (at_snoc_here views w u j e)

  -- Where a view is replaced by another one, that stands at its place.
  pub set_at : (views : List V) (id : ℕ) (v w : V) → get_elem? views id ≡ some v → get_elem? (set views id w) id ≡ some w
  set_at [] id v w e = absurd (some-ne-none v (sym e))
  set_at (x ∷ xs) zero v w e = refl
  set_at (x ∷ xs) (suc id) v w e = set_at xs id v w e

  -- the total after a change of one view
  pub total-set : (f : V → ℕ) (views : List V) (id : ℕ) (v w : V) → get_elem? views id ≡ some v → total f (set views id w) + f v ≡ total f views + f w
  total-set f [] id v w at = absurd (some-ne-none v (sym at))
  total-set f (x ∷ xs) zero v w at = let e : f x ≡ f v = ap f (some-injective x v at) in omega arith
  total-set f (x ∷ xs) (suc id) v w at = let h = total-set f xs id v w at in omega arith

  -- A sum over views and one more is the sum over the views and the number of that one.
  pub total-snoc : (f : V → ℕ) (views : List V) (w : V) → total f (views ++ w ∷ []) ≡ total f views + f w
  total-snoc f [] w = omega arith
  total-snoc f (x ∷ xs) w = let h = total-snoc f xs w in omega arith

  -- Where each view has a number no higher than another one, the sums are no higher either.
  pub total-le : (f g : V → ℕ) (views : List V) → ((i : ℕ) (v : V) → get_elem? views i ≡ some v → f v ≤ g v) → total f views ≤ total g views
  total-le f g [] h = omega arith
  total-le f g (x ∷ xs) h = let a = h 0 x refl in let b = total-le f g xs (λ i v e. h (suc i) v e) in omega arith

  -- The number of a view is no higher than the sum over all views.
  pub total-at : (f : V → ℕ) (views : List V) (id : ℕ) (v : V) → get_elem? views id ≡ some v → f v ≤ total f views
  total-at f [] id v at = absurd (some-ne-none v (sym at))
  total-at f (x ∷ xs) zero v at = let e : f x ≡ f v = ap f (some-injective x v at) in omega arith
  total-at f (x ∷ xs) (suc id) v at = let h = total-at f xs id v at in omega arith

  -- where one view has the whole total, the others have nothing
  pub total-rest : (f : V → ℕ) (views : List V) (id j : ℕ) (v u : V) → get_elem? views id ≡ some v → total f views ≤ f v → j ≢ id → get_elem? views j ≡ some u → f u ≡ 0
  total-rest f [] id j v u at le ne e = absurd (some-ne-none v (sym at))
  total-rest f (x ∷ xs) zero zero v u at le ne e = absurd (ne refl)
  total-rest f (x ∷ xs) zero (suc j) v u at le ne e = let a : f x ≡ f v = ap f (some-injective x v at) in let b = total-at f xs j u e in omega arith
  total-rest f (x ∷ xs) (suc id) zero v u at le ne e = let a : f x ≡ f u = ap f (some-injective x u e) in let b = total-at f xs id v at in omega arith
  total-rest f (x ∷ xs) (suc id) (suc j) v u at le ne e = total-rest f xs id j v u at (omega arith) (λ h. ne (ap suc h)) e

-- At a place of a list that was changed throughout stands the item there, changed.
pub get-map : {A B : Type 0} (f : A → B) (xs : List A) (k : ℕ) (d : A) → k < length xs → get_elem? (map f xs) k ≡ some (f (slice_index_or xs k d))
get-map f [] k d lt = absurd (omega arith)
get-map f (x ∷ xs) zero d lt = refl
get-map f (x ∷ xs) (suc k) d lt = get-map f xs k d (omega arith)

-- The state or none that the first of the slots has.
slot_value : {S : Type 0} → List (ℕ × Option S) → Option S
slot_value [] = None
slot_value (x ∷ xs) = x.1

-- Where it is the same what a seat has of the slot, the state is the same.
pub slot_same : {S : Type 0} (x y : S) → ◌≡◌ {A = List (ℕ × Option S)} ((0, Some x) ∷ []) ((0, Some y) ∷ []) → x ≡ y
unfolding slot_value
slot_same x y e = same_Some x y (ap slot_value e)
