-- A property of all items, and a relation of the items of two lists.
use Rattle.std.proofs.Common.{◌≡◌, ℕ, zero, suc, ◌<◌, List, [], ◌∷◌, ◌++◌, Bool, true, false, cond, ◌==◌, true≢false, Some, IsSome, find, refl, sym, ap, ◌∙◌, subst, ne_of_lt}
use Rattle.std.specs.Cmp.{unsigned_Decides}
use Rattle.cm_facts.proofs.Options.{cond_is_some, cond_some_holds}
use Rattle.cm_world.specs.Edits.{edit_first, drop_first}
use Rattle.cm_world.proofs.lemmas.trees.Finding.{some_same, none_some}
use Rattle.cm_table.specs.Keys.{EachItem, EachOf, item_of, nth, Increasing}
use Rattle.cm_table.proofs.lemmas.lists.BinarySearch.{own}
use Rattle.cm_table.proofs.lemmas.lists.Editing.{edited}

module _ {A : Type 0} where
  -- Where one property follows from another, all items have it that have the other.
  pub each_map : (P Q : A → Type 0) (xs : List A) → ((x : A) → P x → Q x) → EachItem P xs → EachItem Q xs
  each_map P Q [] f all = tt
  each_map P Q (x ∷ xs) f all = (f x all.0, each_map P Q xs f all.1)

  -- What all items of two lists have, all items of both together have.
  pub each_append : (P : A → Type 0) (xs ys : List A) → EachItem P xs → EachItem P ys → EachItem P (xs ++ ys)
  each_append P [] ys a b = b
  each_append P (x ∷ xs) ys a b = (a.0, each_append P xs ys a.1 b)

  -- What all items of a list have, an item that is found there has.
  pub each_find : (P : A → Type 0) (p : A → Bool) (xs : List A) (y : A) → EachItem P xs → find p xs ≡ Some y → P y
  each_find P p [] y all e = absurd (none_some y e)
  each_find P p (x ∷ xs) y all e = cond_some_holds P (p x) x y (find p xs) all.0 (each_find P p xs y all.1) e

  -- What all items of a list have, the item at a place has.
  pub each_nth : (P : A → Type 0) (xs : List A) (k : ℕ) (y : A) → EachItem P xs → nth xs k ≡ Some y → P y
  each_nth P [] k y all e = absurd (none_some y e)
  each_nth P (x ∷ xs) zero y all e = subst P (some_same x y e) all.0
  each_nth P (x ∷ xs) (suc k) y all e = each_nth P xs k y all.1 e

  -- What holds of each item holds of each behind a change of the first, or of one in the rest.
  edited_by : (t : Bool) (P : A → Type 0) (x y : A) (xs ys : List A) → P x → P y → EachItem P xs → EachItem P ys → EachItem P (cond t (y ∷ xs) (x ∷ ys))
  edited_by true P x y xs ys px py rest later = (py, rest)
  edited_by false P x y xs ys px py rest later = (px, later)

  -- What all items have, and a change keeps, all have with the first that passes a test changed.
  pub each_edited : (P : A → Type 0) (p : A → Bool) (f : A → A) (xs : List A) → ((x : A) → P x → P (f x)) → EachItem P xs → EachItem P (edit_first p f xs)
  each_edited P p f [] keep all = tt
  each_edited P p f (x ∷ xs) keep all = edited_by (p x) P x (f x) xs (edit_first p f xs) all.0 (keep x all.0) all.1 (each_edited P p f xs keep all.1)

  -- What holds of each item holds of each behind the removal of the first, or of one in the rest.
  dropped_by : (t : Bool) (P : A → Type 0) (x : A) (xs ys : List A) → P x → EachItem P xs → EachItem P ys → EachItem P (cond t xs (x ∷ ys))
  dropped_by true P x xs ys px rest later = rest
  dropped_by false P x xs ys px rest later = (px, later)

  -- What all items have, all have that are left where the first that passes a test is dropped.
  pub each_dropped : (P : A → Type 0) (p : A → Bool) (xs : List A) → EachItem P xs → EachItem P (drop_first p xs)
  each_dropped P p [] all = tt
  each_dropped P p (x ∷ xs) all = dropped_by (p x) P x xs (drop_first p xs) all.0 all.1 (each_dropped P p xs all.1)

  -- a property of the first items gives one of the second
  pub each_zip : (R : A → A → Type 0) (P Q : A → Type 0) (xs ys : List A) → ((x y : A) → R x y → P x → Q y) → EachOf R xs ys → EachItem P xs → EachItem Q ys
  each_zip R P Q [] [] f rel all = tt
  each_zip R P Q [] (y ∷ ys) f rel all = absurd rel
  each_zip R P Q (x ∷ xs) [] f rel all = absurd rel
  each_zip R P Q (x ∷ xs) (y ∷ ys) f rel all = (f x y rel.0 all.0, each_zip R P Q xs ys f rel.1 all.1)

  -- Where what has a property is related to itself, a list of items that have it is so item by item.
  pub each_same : (R : A → A → Type 0) (P : A → Type 0) (xs : List A) → ((x : A) → P x → R x x) → EachItem P xs → EachOf R xs xs
  each_same R P [] f all = tt
  each_same R P (x ∷ xs) f all = (f x all.0, each_same R P xs f all.1)

  -- what holds of all and what else does hold together
  pub both : (P Q : A → Type 0) (ss : List A) → EachItem P ss → EachItem Q ss → EachItem (λ s. P s × Q s) ss
  both P Q [] a b = tt
  both P Q (s ∷ ss) a b = ((a.0, b.0), both P Q ss a.1 b.1)

module _ {Y : Type 0} (key : Y → ℕ) where
  -- what stands behind a key is above it
  pub above : (i : ℕ) (ss : List Y) → ((j : ℕ) → IsSome (item_of key ss j) → i < j) → EachItem (λ s. i < key s) ss
  above i [] h = tt
  above i (s ∷ ss) h = (h (key s) (own key s ss), above i ss (λ j g. h j (cond_is_some (key s == j) s (item_of key ss j) g)))

  -- Each item is related to what became of it behind a change at a key, if so in the rest.
  of_by : (t : Bool) (R : Y → Y → Type 0) (P : Y → Type 0) (i : ℕ) (f : Y → Y) (s : Y) (ss : List Y) → (key s == i) ≡ t → Increasing key (s ∷ ss) → EachItem P (s ∷ ss) → ((x : Y) → P x → item_of key (s ∷ ss) i ≡ Some x → R x (f x)) → ((x : Y) → P x → (key x ≡ i → ⊥) → R x x) → ((key s == i) ≡ false → EachOf R ss (edited key i f ss)) → EachOf R (s ∷ ss) (cond t (f s ∷ ss) (s ∷ edited key i f ss))
  of_by true R P i f s ss own rise all hit other later =
      let at : key s ≡ i = (unsigned_Decides (key s) i).0 own in (
        hit s all.0 (ap (λ t. cond t (Some s) (item_of key ss i)) own),
        each_same R (λ x. P x × (key s < key x)) ss (λ x h. other x h.0 (λ e. ne_of_lt h.1 (at ∙ sym e)))
            (both P (λ x. key s < key x) ss all.1 (above (key s) ss rise.0)),
      )
  of_by false R P i f s ss own rise all hit other later =
      (other s all.0 (λ e. true≢false (sym ((unsigned_Decides (key s) i).1 e) ∙ own)), later own)

  -- items of which the one of a key was changed
  pub each_of_edited : (R : Y → Y → Type 0) (P : Y → Type 0) (i : ℕ) (f : Y → Y) (ss : List Y) → Increasing key ss → EachItem P ss → ((x : Y) → P x → item_of key ss i ≡ Some x → R x (f x)) → ((x : Y) → P x → (key x ≡ i → ⊥) → R x x) → EachOf R ss (edited key i f ss)
  each_of_edited R P i f [] rise all hit other = tt
  each_of_edited R P i f (s ∷ ss) rise all hit other =
      of_by (key s == i) R P i f s ss refl rise all hit other
      (λ miss. each_of_edited R P i f ss rise.1 all.1 (λ x p e. hit x p (ap (λ t. cond t (Some s) (item_of key ss i)) miss ∙ e)) other)
