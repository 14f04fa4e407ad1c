-- Tests on lists, and what the rows of a list that pass one make together.
use Rattle.std.proofs.Common.{◌≡◌, ◌≢◌, ℕ, ◌<◌, List, [], ◌∷◌, ◌++◌, Bool, true, false, cond, ◌&&◌, ◌||◌, ◌==◌, true≢false, Some, IsTrue, find, filter, flat_map, count_by, length, refl, sym, ◌∙◌, ap, subst, inl, inr, arith, append-nil}
use Rattle.std.specs.List.{list_any}
use Rattle.std.specs.Cmp.{unsigned_Decides}
use Rattle.std.proofs.lemmas.List.Folds.{list_any-append}
use Rattle.std.proofs.lemmas.List.Elements.{filter-append}
use Rattle.std.proofs.lemmas.List.Sums.{length-filter}
use Rattle.std.proofs.lemmas.Grind.{flat_map-append}
use Rattle.std.proofs.lemmas.Bool.{or_cases}
use Rattle.cm_decl.proofs.lemmas.Sameness.{never}
use Rattle.cm_world.specs.declared.row.Row.{Row}
use Rattle.cm_world.specs.Rows.{row_of}
use Rattle.cm_world.specs.Sound.{IncarnationsIncrease}
use Rattle.cm_world.proofs.lemmas.trees.Finding.{none_some, some_same, find-passes}
use Rattle.cm_world.proofs.lemmas.trees.Walks.{find-lives}
use Rattle.cm_trees.proofs.trees.Trees.{or_left, or_right}

-- Where some item passes, there is one that does.
pub any_some : {A : Type 0} (q : A → Bool) (xs : List A) → IsTrue (list_any q xs) → (x : A) × IsTrue (q x)
any_some q [] h = never h
any_some q (x ∷ xs) h = elim (or_cases (q x) (list_any q xs) h) [ inl here ↦ (x, here) | inr later ↦ any_some q xs later ]

-- what passes of what the rows of a list that pass another test make
pub any_flat : {A B : Type 0} (q : B → Bool) (f : A → List B) (t : A → Bool) (xs : List A) → list_any q (flat_map f (filter t xs)) ≡ list_any (λ x. t x && list_any q (f x)) xs
any_flat q f t [] = refl
any_flat q f t (x ∷ xs) = by (t x) refl (any_flat q f t xs) where
  by : (b : Bool) → t x ≡ b → list_any q (flat_map f (filter t xs)) ≡ list_any (λ x. t x && list_any q (f x)) xs → list_any q (flat_map f (filter t (x ∷ xs))) ≡ list_any (λ x. t x && list_any q (f x)) (x ∷ xs)
  by true e more = rw e (list_any-append q (f x) (flat_map f (filter t xs)) ∙ ap (λ b. list_any q (f x) || b) more)
  by false e more = rw e more

-- ---- rows

-- Where some item passes a test, one is found by it.
any_find : {A : Type 0} (q : A → Bool) (xs : List A) → IsTrue (list_any q xs) → (x : A) × (find q xs ≡ Some x)
any_find q [] h = never h
any_find q (x ∷ xs) h = by (q x) refl (λ later. any_find q xs later) where
  by : (b : Bool) → q x ≡ b → (IsTrue (list_any q xs) → (y : _) × (find q xs ≡ Some y)) → (y : _) × (find q (x ∷ xs) ≡ Some y)
  by true e more = (x, rw e refl)
  by false e more = let rest : (y : _) × (find q xs ≡ Some y) = more (rw e at h) in (rest.0, rw e rest.1)

-- where one of the rows passes, one that lives does
pub any_row : (q : Row → Bool) (rows : List Row) (next : ℕ) → IncarnationsIncrease next rows → IsTrue (list_any q rows) → (r : Row) × (row_of rows r.inc ≡ Some r) × IsTrue (q r)
any_row q rows next increasing h =
    let found : (r : Row) × (find q rows ≡ Some r) = any_find q rows h in
    (found.0, find-lives q rows next found.0 increasing found.1, find-passes q rows found.0 found.1)

-- Where a living row passes a test, some row of the list does.
pub row_any : (q : Row → Bool) (rows : List Row) (i : ℕ) (r : Row) → row_of rows i ≡ Some r → IsTrue (q r) → IsTrue (list_any q rows)
row_any q [] i r lives passes = absurd (none_some r lives)
row_any q (s ∷ ss) i r lives passes = by (s.inc == i) refl (λ later. row_any q ss i r later passes) where
  by : (b : Bool) → (s.inc == i) ≡ b → (row_of ss i ≡ Some r → IsTrue (list_any q ss)) → IsTrue (list_any q (s ∷ ss))
  by true e more = or_left (q s) (list_any q ss) (subst (λ z. IsTrue (q z)) (sym (some_same s r (rw e at lives))) passes)
  by false e more = or_right (q s) (list_any q ss) (more (rw e at lives))

-- ---- counts

-- Where some item passes a test, some are left by it.
any_kept : {A : Type 0} (q : A → Bool) (xs : List A) → IsTrue (list_any q xs) → 0 < length (filter q xs)
any_kept q [] h = never h
any_kept q (x ∷ xs) h = by (q x) refl (λ later. any_kept q xs later) where
  by : (b : Bool) → q x ≡ b → (IsTrue (list_any q xs) → 0 < length (filter q xs)) → 0 < length (filter q (x ∷ xs))
  by true e more = rw e (omega arith)
  by false e more = rw e (more (rw e at h))

-- Where some items are left by a test, some item passes it.
kept_any : {A : Type 0} (q : A → Bool) (xs : List A) → 0 < length (filter q xs) → IsTrue (list_any q xs)
kept_any q [] h = absurd (omega arith)
kept_any q (x ∷ xs) h = by (q x) refl (λ later. kept_any q xs later) where
  by : (b : Bool) → q x ≡ b → (0 < length (filter q xs) → IsTrue (list_any q xs)) → IsTrue (list_any q (x ∷ xs))
  by true e more = or_left (q x) (list_any q xs) e
  by false e more = or_right (q x) (list_any q xs) (more (rw e at h))

-- Where some item of a list passes a test, more than none do.
pub any_counts : {A : Type 0} (q : A → Bool) (xs : List A) → IsTrue (list_any q xs) → 0 < count_by q xs
any_counts q xs h = subst (λ n. 0 < n) (length-filter q xs) (any_kept q xs h)

-- Where more than none of a list's items pass a test, some item does.
pub counts_any : {A : Type 0} (q : A → Bool) (xs : List A) → 0 < count_by q xs → IsTrue (list_any q xs)
counts_any q xs h = kept_any q xs (subst (λ n. 0 < n) (sym (length-filter q xs)) h)

-- ---- what one row alone makes

-- what the rows that pass a test make of those of their parts that pass another
pub flat_flat : {A B C : Type 0} (f : B → List C) (t : B → Bool) (g : A → List B) (q : A → Bool) (xs : List A) → flat_map f (filter t (flat_map g (filter q xs))) ≡ flat_map (λ x. cond (q x) (flat_map f (filter t (g x))) []) xs
flat_flat f t g q [] = refl
flat_flat f t g q (x ∷ xs) = by (q x) refl (flat_flat f t g q xs) where
  by : (b : Bool) → q x ≡ b → flat_map f (filter t (flat_map g (filter q xs))) ≡ flat_map (λ x. cond (q x) (flat_map f (filter t (g x))) []) xs → flat_map f (filter t (flat_map g (filter q (x ∷ xs)))) ≡ flat_map (λ x. cond (q x) (flat_map f (filter t (g x))) []) (x ∷ xs)
  by true e more =
      rw e (ap (flat_map f) (filter-append t (g x) (flat_map g (filter q xs)))
      ∙ flat_map-append f (filter t (g x)) (filter t (flat_map g (filter q xs)))
      ∙ ap (λ l. flat_map f (filter t (g x)) ++ l) more)
  by false e more = rw e more

-- A row with a higher incarnation than a first one is found with that one before it too.
pub row_later : (s : Row) (ss : List Row) (j : ℕ) (t : Row) → row_of ss j ≡ Some t → s.inc < j → row_of (s ∷ ss) j ≡ Some t
row_later s ss j t lives low = by (s.inc == j) refl where
  by : (b : Bool) → (s.inc == j) ≡ b → row_of (s ∷ ss) j ≡ Some t
  by true e = let same : s.inc ≡ j = (unsigned_Decides s.inc j).0 e in absurd (omega arith)
  by false e = rw e lives

-- Where nothing is made of each row that lives, nothing is made of all rows together.
others_nothing : {A : Type 0} (G : Row → List A) (rows : List Row) (next : ℕ) → IncarnationsIncrease next rows → ((j : ℕ) (s : Row) → row_of rows j ≡ Some s → G s ≡ []) → flat_map G rows ≡ []
others_nothing G [] next increasing none = refl
others_nothing G (s ∷ ss) next increasing none =
    ap (λ l. l ++ flat_map G ss) (none s.inc s (rw ((unsigned_Decides s.inc s.inc).1 refl) refl))
    ∙ others_nothing G ss next increasing.1 (λ j t lives. none j t (row_later s ss j t lives (increasing.0.1 j (rw lives refl))))

-- where all other rows make nothing, all make what one makes
pub only_row : {A : Type 0} (G : Row → List A) (rows : List Row) (next i : ℕ) (r : Row) → IncarnationsIncrease next rows → row_of rows i ≡ Some r → ((j : ℕ) (s : Row) → row_of rows j ≡ Some s → j ≢ i → G s ≡ []) → flat_map G rows ≡ G r
only_row G [] next i r increasing lives none = absurd (none_some r lives)
only_row G (s ∷ ss) next i r increasing lives none = by (s.inc == i) refl (λ later. only_row G ss next i r increasing.1 later (λ j t there apart. none j t (row_later s ss j t there (increasing.0.1 j (rw there refl))) apart)) where
  by : (b : Bool) → (s.inc == i) ≡ b → (row_of ss i ≡ Some r → flat_map G ss ≡ G r) → flat_map G (s ∷ ss) ≡ G r
  by true e more =
      let same : s ≡ r = some_same s r (rw e at lives) in
      let own : s.inc ≡ i = (unsigned_Decides s.inc i).0 e in
      ap (λ l. G s ++ l) (others_nothing G ss next increasing.1 (λ j t there.
      let low : s.inc < j = increasing.0.1 j (rw there refl) in
      none j t (row_later s ss j t there low) (λ equal. let never : ⊥ = absurd (omega arith) in never)))
      ∙ append-nil (G s) ∙ ap G same
  by false e more =
      let own : row_of (s ∷ ss) s.inc ≡ Some s = rw ((unsigned_Decides s.inc s.inc).1 refl) refl in
      ap (λ l. l ++ flat_map G ss) (none s.inc s own (λ equal. true≢false (sym ((unsigned_Decides s.inc i).1 equal) ∙ e))) ∙ more (rw e at lives)
