-- The row of an incarnation, in rows that were changed and in rows with one more.
use Rattle.std.proofs.Common.{◌≡◌, ℕ, ◌+◌, ◌<◌, List, [], ◌∷◌, ◌++◌, Bool, true, false, cond, ◌==◌, true≢false, Option, Some, None, IsSome, is_some, refl, sym, ap, subst, arith, inl, inr, ◌⊎◌}
use Rattle.std.specs.Cmp.{unsigned_Decides}
use Rattle.cm_facts.proofs.Options.{cond_some_more, is_some_true}
use Rattle.cm_world.specs.declared.row.Row.{Row}
use Rattle.cm_world.specs.Rows.{row_of}
use Rattle.cm_world.specs.End.{changed}
use Rattle.cm_world.specs.Sound.{IncarnationsIncrease}
use Rattle.cm_world.proofs.lemmas.trees.Finding.{some_same, none_some}
pub use Rattle.cm_world.proofs.lemmas.trees.Walks.{below_next as lives_below}

-- A value that is known to be this one is there.
pub is_some_by : {A : Type 0} (o : Option A) (x : A) → o ≡ Some x → IsSome o
is_some_by o x e = ap is_some e

-- ---- with more rows behind

-- A row that lives among rows lives with more rows behind them too.
pub lives_left : (xs ys : List Row) (i : ℕ) (r : Row) → row_of xs i ≡ Some r → row_of (xs ++ ys) i ≡ Some r
lives_left [] ys i r e = absurd (none_some r e)
lives_left (x ∷ xs) ys i r e = cond_some_more (x.inc == i) x r (row_of xs i) (row_of (xs ++ ys) i) (lives_left xs ys i r) e

-- A row found in two parts of a list is found in one of them, if so in the rest.
split_by : (t : Bool) (x r : Row) (o all more : Option Row) → (all ≡ Some r → (o ≡ Some r) ⊎ (more ≡ Some r)) → cond t (Some x) all ≡ Some r → (cond t (Some x) o ≡ Some r) ⊎ (more ≡ Some r)
split_by true x r o all more later e = inl e
split_by false x r o all more later e = later e

-- The row of an incarnation in two lists of rows, one behind another, is in one of them.
lives_split : (xs ys : List Row) (i : ℕ) (r : Row) → row_of (xs ++ ys) i ≡ Some r → (row_of xs i ≡ Some r) ⊎ (row_of ys i ≡ Some r)
lives_split [] ys i r e = inr e
lives_split (x ∷ xs) ys i r e = split_by (x.inc == i) x r (row_of xs i) (row_of (xs ++ ys) i) (row_of ys i) (lives_split xs ys i r) e

-- The row found in a list of one row is that row, with that incarnation.
last_by : (t : Bool) (r s : Row) (i : ℕ) → (r.inc == i) ≡ t → cond t (Some r) None ≡ Some s → (s ≡ r) × (r.inc ≡ i)
last_by true r s i same e = (sym (some_same r s e), (unsigned_Decides r.inc i).0 same)
last_by false r s i same e = absurd (none_some s e)

-- The row found among rows or in one more is among them or is the one more.
last_of : (r s : Row) (i : ℕ) (o : (Option Row)) → (o ≡ Some s) ⊎ (row_of (r ∷ []) i ≡ Some s) → (o ≡ Some s) ⊎ ((s ≡ r) × (r.inc ≡ i))
last_of r s i o (inl e) = inl e
last_of r s i o (inr e) = inr (last_by (r.inc == i) r s i refl e)

-- a row that lives among rows and one more is one of them, or that one
pub lives_pushed : (xs : List Row) (r s : Row) (i : ℕ) → row_of (xs ++ r ∷ []) i ≡ Some s → (row_of xs i ≡ Some s) ⊎ ((s ≡ r) × (r.inc ≡ i))
lives_pushed xs r s i e = last_of r s i (row_of xs i) (lives_split xs (r ∷ []) i s e)

-- ---- with one row changed

-- the row that a row was before the change, by what was found
pub record Was (f : Row → Row) (o : Option Row) (s : Row) : Type 0 where
  pub row : Row
  pub was : o ≡ Some row
  pub is : (s ≡ row) ⊎ (s ≡ f row)

-- The row found behind a change was found before it, if so in the rest.
was_by : (u : Bool) (f : Row → Row) (x y s : Row) (o p : Option Row) → (y ≡ x) ⊎ (y ≡ f x) → (p ≡ Some s → Was f o s) → cond u (Some y) p ≡ Some s → Was f (cond u (Some x) o) s
was_by true f x y s o p change later e = record { row = x; was = refl; is = subst (λ z. (z ≡ x) ⊎ (z ≡ f x)) (some_same y s e) change }
was_by false f x y s o p change later e = later e

-- The row of an incarnation behind a change at the first row was there before, if so in the rest.
was_at : (t : Bool) (i : ℕ) (f : Row → Row) → ((r : Row) → (f r).inc ≡ r.inc) → (x : Row) (xs : List Row) (j : ℕ) (s : Row) → (row_of (changed i f xs) j ≡ Some s → Was f (row_of xs j) s) → row_of (cond t (f x ∷ xs) (x ∷ changed i f xs)) j ≡ Some s → Was f (row_of (x ∷ xs) j) s
was_at true i f keeps x xs j s later e =
    was_by (x.inc == j) f x (f x) s (row_of xs j) (row_of xs j) (inr refl) (λ h. record { row = s; was = h; is = inl refl })
    (subst (λ n. cond (n == j) (Some (f x)) (row_of xs j) ≡ Some s) (keeps x) e)
was_at false i f keeps x xs j s later e = was_by (x.inc == j) f x x s (row_of xs j) (row_of (changed i f xs) j) (inl refl) later e

-- A row that is found where one was changed was there before, as it is, or before that change.
pub was_before : (i : ℕ) (f : Row → Row) → ((r : Row) → (f r).inc ≡ r.inc) → (xs : List Row) (j : ℕ) (s : Row) → row_of (changed i f xs) j ≡ Some s → Was f (row_of xs j) s
was_before i f keeps [] j s e = absurd (none_some s e)
was_before i f keeps (x ∷ xs) j s e = was_at (x.inc == i) i f keeps x xs j s (was_before i f keeps xs j s) e

-- the row that a row is after the change
pub record Becomes (f : Row → Row) (o : Option Row) (r : Row) : Type 0 where
  pub row : Row
  pub lives : o ≡ Some row
  pub is : (row ≡ r) ⊎ (row ≡ f r)

-- The row found before a change is found behind it, changed or not, if so in the rest.
becomes_by : (u : Bool) (f : Row → Row) (x y r : Row) (o p : Option Row) → (y ≡ x) ⊎ (y ≡ f x) → (o ≡ Some r → Becomes f p r) → cond u (Some x) o ≡ Some r → Becomes f (cond u (Some y) p) r
becomes_by true f x y r o p change later e = record { row = y; lives = refl; is = subst (λ z. (y ≡ z) ⊎ (y ≡ f z)) (some_same x r e) change }
becomes_by false f x y r o p change later e = later e

-- The row of an incarnation before a change at the first row is there behind it, if so in the rest.
becomes_at : (t : Bool) (i : ℕ) (f : Row → Row) → ((r : Row) → (f r).inc ≡ r.inc) → (x : Row) (xs : List Row) (j : ℕ) (r : Row) → (row_of xs j ≡ Some r → Becomes f (row_of (changed i f xs) j) r) → row_of (x ∷ xs) j ≡ Some r → Becomes f (row_of (cond t (f x ∷ xs) (x ∷ changed i f xs)) j) r
becomes_at true i f keeps x xs j r later e =
    subst (λ n. Becomes f (cond (n == j) (Some (f x)) (row_of xs j)) r) (sym (keeps x))
    (becomes_by (x.inc == j) f x (f x) r (row_of xs j) (row_of xs j) (inr refl) (λ h. record { row = r; lives = h; is = inl refl }) e)
becomes_at false i f keeps x xs j r later e = becomes_by (x.inc == j) f x x r (row_of xs j) (row_of (changed i f xs) j) (inl refl) later e

-- A row that was there is found where one was changed, as it was, or with that change.
pub becomes_after : (i : ℕ) (f : Row → Row) → ((r : Row) → (f r).inc ≡ r.inc) → (xs : List Row) (j : ℕ) (r : Row) → row_of xs j ≡ Some r → Becomes f (row_of (changed i f xs) j) r
becomes_after i f keeps [] j r e = absurd (none_some r e)
becomes_after i f keeps (x ∷ xs) j r e = becomes_at (x.inc == i) i f keeps x xs j r (becomes_after i f keeps xs j r) e

-- The row that is changed is found by its incarnation behind the change, if so in the rest.
changed_by : (u : Bool) (i : ℕ) (f : Row → Row) (x r : Row) (xs : List Row) → ((s : Row) → (f s).inc ≡ s.inc) → (x.inc == i) ≡ u → (row_of xs i ≡ Some r → row_of (changed i f xs) i ≡ Some (f r)) → cond u (Some x) (row_of xs i) ≡ Some r → row_of (cond u (f x ∷ xs) (x ∷ changed i f xs)) i ≡ Some (f r)
changed_by true i f x r xs keeps same later e =
    subst (λ n. cond (n == i) (Some (f x)) (row_of xs i) ≡ Some (f r)) (sym (keeps x))
    (subst (λ t. cond t (Some (f x)) (row_of xs i) ≡ Some (f r)) (sym same) (ap (λ z. Some (f z)) (some_same x r e)))
changed_by false i f x r xs keeps same later e = rw same (later e)

-- the row of that incarnation is the one that is changed
pub row_of-changed : (i : ℕ) (f : Row → Row) → ((r : Row) → (f r).inc ≡ r.inc) → (xs : List Row) (r : Row) → row_of xs i ≡ Some r → row_of (changed i f xs) i ≡ Some (f r)
row_of-changed i f keeps [] r e = absurd (none_some r e)
row_of-changed i f keeps (x ∷ xs) r e = changed_by (x.inc == i) i f x r xs keeps refl (row_of-changed i f keeps xs r) e

-- ---- increasing incarnations

-- A row below all rows and below the next incarnation is below all with one more.
later_low : (next i s : ℕ) (rs : List Row) (r : Row) (o : Option Row) → r.inc ≡ next → i < next → (IsSome o → i < s) → (q : Row) → (o ≡ Some q) ⊎ ((q ≡ r) × (r.inc ≡ s)) → i < s
later_low next i s rs r o number low later q (inl e) = later (is_some_by o q e)
later_low next i s rs r o number low later q (inr own) = omega (arith, own.1)

-- Incarnations increase with one more row behind that has the next incarnation.
pub increasing_push : (rows : List Row) (next : ℕ) (r : Row) → r.inc ≡ next → IncarnationsIncrease next rows → IncarnationsIncrease (next + 1) (rows ++ r ∷ [])
increasing_push [] next r number increasing = ((omega arith, λ s h. absurd (true≢false (sym h))), tt)
increasing_push (x ∷ xs) next r number increasing =
    let low : x.inc < next = increasing.0.0 in (
      (
        omega arith,
        λ s h. let q : (y : Row) × (row_of (xs ++ r ∷ []) s ≡ Some y) = is_some_true (row_of (xs ++ r ∷ []) s) h in
            later_low next x.inc s xs r (row_of xs s) number low (increasing.0.1 s) q.0 (lives_pushed xs r q.0 s q.1),
      ),
      increasing_push xs next r number increasing.1,
    )

-- Incarnations still increase behind a change at the first row, if so in the rest.
increasing_at : (t : Bool) (i next : ℕ) (f : Row → Row) → ((r : Row) → (f r).inc ≡ r.inc) → (x : Row) (xs : List Row) → IncarnationsIncrease next (x ∷ xs) → IncarnationsIncrease next (changed i f xs) → IncarnationsIncrease next (cond t (f x ∷ xs) (x ∷ changed i f xs))
increasing_at true i next f keeps x xs increasing later =
    ((subst (λ n. n < next) (sym (keeps x)) increasing.0.0, λ s h. subst (λ n. n < s) (sym (keeps x)) (increasing.0.1 s h)), increasing.1)
increasing_at false i next f keeps x xs increasing later = (
  (
    increasing.0.0,
    λ s h. let q : (y : Row) × (row_of (changed i f xs) s ≡ Some y) = is_some_true (row_of (changed i f xs) s) h in
        let w : Was f (row_of xs s) q.0 = was_before i f keeps xs s q.0 q.1 in
        increasing.0.1 s (is_some_by (row_of xs s) w.row w.was),
  ),
  later,
)

-- Incarnations increase still, where a row is changed, but not in its incarnation.
pub increasing_changed : (i next : ℕ) (f : Row → Row) → ((r : Row) → (f r).inc ≡ r.inc) → (xs : List Row) → IncarnationsIncrease next xs → IncarnationsIncrease next (changed i f xs)
increasing_changed i next f keeps [] increasing = tt
increasing_changed i next f keeps (x ∷ xs) increasing = increasing_at (x.inc == i) i next f keeps x xs increasing (increasing_changed i next f keeps xs increasing.1)
