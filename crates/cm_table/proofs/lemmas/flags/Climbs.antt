-- What is read up the tree, in two trees in which rows stand alike, and where one row is marked.
use Rattle.std.proofs.Common.{◌≡◌, ℕ, zero, suc, ◌<◌, List, [], ◌∷◌, length, Bool, true, false, cond, ◌||◌, ◌==◌, true≢false, Option, Some, None, refl, sym, ◌∙◌, ap, subst, arith, inl, inr, ◌⊎◌, ne_eqb}
use Rattle.std.specs.Cmp.{unsigned_Decides}
use Rattle.std.proofs.Math.Bool.{or-true}
use Rattle.cm_facts.proofs.Numbers.{lt_of_lt_suc}
use Rattle.cm_world.specs.declared.row.Row.{Row}
use Rattle.cm_world.specs.End.{changed}
use Rattle.cm_world.specs.Rows.{row_of, is_below, at_or_above, some_above}
use Rattle.cm_world.specs.Sound.{IsOrderly, IsParent}
use Rattle.cm_world.proofs.lemmas.trees.Finding.{none_some, row_of-inc}
use Rattle.cm_world.proofs.lemmas.trees.Climbing.{some_above-step, above_root}
use Rattle.cm_trees.proofs.rows.Rows.{row_of-changed, Was, was_before, Becomes, becomes_after}
use Rattle.cm_trees.proofs.trees.Standing.{below_self, nothing_above}

-- ---- a row that doesn't live

-- Where an incarnation has no row, none at or above it passes a test.
none_above_by : (n : ℕ) (passes : Row → Bool) (rows : List Row) (i : ℕ) (o : Option Row) → o ≡ None → elim o as (λ _. Bool) [ None ↦ false | Some r ↦ passes r || at_or_above n passes rows r.parent ] ≡ false
none_above_by n passes rows i None e = refl
none_above_by n passes rows i (Some r) e = absurd (none_some r (sym e))

-- Where an incarnation doesn't live, no row at or above it passes a test.
pub none_above : (passes : Row → Bool) (rows : List Row) (i : ℕ) → row_of rows i ≡ None → some_above passes rows i ≡ false
none_above passes rows i e = nothing_above (length rows) passes rows i e

-- ---- two trees in which rows stand alike

-- the row of an incarnation in another tree, which has the same parent, and passes a test where that row does
pub record IsTwin (b : List Row) (P : Row → Bool) (i : ℕ) (r : Row) : Type 0 where
  pub row : Row
  pub lives : row_of b i ≡ Some row
  pub parent : row.parent ≡ r.parent
  pub test : P row ≡ P r

module _ (P : Row → Bool) (a b : List Row) (na nb : ℕ) (oa : IsOrderly a na) (ob : IsOrderly b nb) (twins : (i : ℕ) (r : Row) → row_of a i ≡ Some r → IsTwin b P i r) where
  -- Whether a row at or above a row's parent passes is the same in both trees, if so of lower rows.
  tests_by : (i : ℕ) (r : Row) (u : Option ℕ) → row_of a i ≡ Some r → r.parent ≡ u → ((p : ℕ) (q : Row) → p < i → row_of a p ≡ Some q → some_above P b p ≡ some_above P a p) → at_or_above (length b) P b u ≡ at_or_above (length a) P a u
  tests_by i r None here up later = above_root (length b) P b ∙ sym (above_root (length a) P a)
  tests_by i r (Some p) here up later = let q : IsParent a p i = (oa.parents i p r here up).0 in later p q.row q.lower q.lives

  -- Whether a row at or above one below a bound passes is the same in both trees.
  tests_below : (n i : ℕ) (r : Row) → i < n → row_of a i ≡ Some r → some_above P b i ≡ some_above P a i
  tests_below zero i r low here = absurd (omega arith)
  tests_below (suc n) i r low here =
      let t : IsTwin b P i r = twins i r here in
      some_above-step P b nb i t.row ob t.lives
      ∙ ap (λ x. x || at_or_above (length b) P b t.row.parent) t.test
      ∙ ap (λ u. P r || at_or_above (length b) P b u) t.parent
      ∙ ap (λ x. P r || x) (tests_by i r r.parent here refl (λ p q less lives. tests_below n p q (lt_of_lt_suc p i n less low) lives))
      ∙ sym (some_above-step P a na i r oa here)

  -- Where each row has a twin in another tree, a test passes at or above a row there as it does here.
  pub tests_same : (i : ℕ) (r : Row) → row_of a i ≡ Some r → some_above P b i ≡ some_above P a i
  tests_same i r here = tests_below (suc i) i r (omega arith) here

  -- where no others live there, of all
  all_by : (i : ℕ) (o : Option Row) → row_of a i ≡ o → (o ≡ None → row_of b i ≡ None) → some_above P b i ≡ some_above P a i
  all_by i (Some r) e gone = tests_same i r e
  all_by i None e gone = none_above P b i (gone refl) ∙ sym (none_above P a i e)

  -- Where no others live in the other tree, a test passes at or above all there as it does here.
  pub all_same : ((i : ℕ) → row_of a i ≡ None → row_of b i ≡ None) → (i : ℕ) → some_above P b i ≡ some_above P a i
  all_same gone i = all_by i (row_of a i) refl (λ e. gone i e)

-- ---- one row is changed

-- An incarnation without a row has none behind a change.
none_changed_by : (rows : List Row) (x i : ℕ) (f : Row → Row) (o : Option Row) → ((r : Row) → (f r).inc ≡ r.inc) → row_of rows i ≡ None → row_of (changed x f rows) i ≡ o → o ≡ None
none_changed_by rows x i f None keeps e is = refl
none_changed_by rows x i f (Some s) keeps e is = let w : Was f (row_of rows i) s = was_before x f keeps rows i s is in absurd (none_some w.row (sym e ∙ w.was))

-- An incarnation that doesn't live doesn't either where a row is changed.
pub none_changed : (rows : List Row) (x i : ℕ) (f : Row → Row) → ((r : Row) → (f r).inc ≡ r.inc) → row_of rows i ≡ None → row_of (changed x f rows) i ≡ None
none_changed rows x i f keeps e = none_changed_by rows x i f (row_of (changed x f rows) i) keeps e refl

-- A change that keeps parents keeps the parent of a row, changed or not.
parent_kept : (f : Row → Row) (s r : Row) → ((z : Row) → (f z).parent ≡ z.parent) → (s ≡ r) ⊎ (s ≡ f r) → s.parent ≡ r.parent
parent_kept f s r up (inl e) = ap (λ z. z.parent) e
parent_kept f s r up (inr e) = ap (λ z. z.parent) e ∙ up r

-- A change that keeps a test keeps what a row passes, changed or not.
test_kept : (P : Row → Bool) (f : Row → Row) (s r : Row) → ((z : Row) → P (f z) ≡ P z) → (s ≡ r) ⊎ (s ≡ f r) → P s ≡ P r
test_kept P f s r same (inl e) = ap P e
test_kept P f s r same (inr e) = ap P e ∙ same r

-- a change that leaves the test's answer as it is
pub unmarked_changed : (P : Row → Bool) (f : Row → Row) (rows : List Row) (next x : ℕ) → IsOrderly rows next → IsOrderly (changed x f rows) next → ((r : Row) → (f r).inc ≡ r.inc) → ((r : Row) → (f r).parent ≡ r.parent) → ((r : Row) → P (f r) ≡ P r) → (i : ℕ) → some_above P (changed x f rows) i ≡ some_above P rows i
unmarked_changed P f rows next x o on keeps up same =
    all_same P rows (changed x f rows) next next o on
    (λ i r here. let b : Becomes f (row_of (changed x f rows) i) r = becomes_after x f keeps rows i r here in
    record { row = b.row; lives = b.lives; parent = parent_kept f b.row r up b.is; test = test_kept P f b.row r same b.is })
    (λ i e. none_changed rows x i f keeps e)

-- A change at one incarnation leaves the row of another, if so in the rest.
other_by : (t : Bool) (f : Row → Row) (i j : ℕ) (x : Row) (xs : List Row) → ((r : Row) → (f r).inc ≡ r.inc) → (j ≡ i → ⊥) → (x.inc == i) ≡ t → row_of (changed i f xs) j ≡ row_of xs j → row_of (cond t (f x ∷ xs) (x ∷ changed i f xs)) j ≡ row_of (x ∷ xs) j
other_by true f i j x xs keeps differ same later =
    let off : (x.inc == j) ≡ false = ne_eqb x.inc j (λ e. differ (sym e ∙ (unsigned_Decides x.inc i).0 same)) in
    ap (λ n. cond (n == j) (Some (f x)) (row_of xs j)) (keeps x) ∙ ap (λ t. cond t (Some (f x)) (row_of xs j)) off ∙ sym (ap (λ t. cond t (Some x) (row_of xs j)) off)
other_by false f i j x xs keeps differ same later = ap (cond (x.inc == j) (Some x)) later

-- Where a row is changed, the rows of other incarnations are as they were.
pub row_of-other : (f : Row → Row) (i j : ℕ) (rows : List Row) → ((r : Row) → (f r).inc ≡ r.inc) → (j ≡ i → ⊥) → row_of (changed i f rows) j ≡ row_of rows j
row_of-other f i j [] keeps differ = refl
row_of-other f i j (x ∷ xs) keeps differ = other_by (x.inc == i) f i j x xs keeps differ refl (row_of-other f i j xs keeps differ)

-- Whether one of three tests passes doesn't depend on how they are put together.
shuffle : (r c b : Bool) → (r || (c || b)) ≡ ((r || c) || (false || b))
shuffle true c b = refl
shuffle false c b = refl

module _ (P : Row → Bool) (f : Row → Row) (rows : List Row) (next x : ℕ) (o : IsOrderly rows next) (on : IsOrderly (changed x f rows) next) (keeps : (r : Row) → (f r).inc ≡ r.inc) (hits : (r : Row) → P (f r) ≡ true) where
  -- The rows after one of them is marked.
  abbrev after : List Row
  after = changed x f rows

  -- At or above a parent one passes behind the mark as before or at the marked row, if so of lower rows.
  above_by : (i : ℕ) (r : Row) (u : Option ℕ) → row_of rows i ≡ Some r → r.parent ≡ u → ((p : ℕ) (q : Row) → p < i → row_of rows p ≡ Some q → some_above P after p ≡ (some_above P rows p || is_below rows x p))
      → at_or_above (length after) P after u ≡ (at_or_above (length rows) P rows u || at_or_above (length rows) (λ s. s.inc == x) rows u)
  above_by i r None here up later =
      above_root (length after) P after
      ∙ sym (ap (λ b. b || at_or_above (length rows) (λ s. s.inc == x) rows None) (above_root (length rows) P rows) ∙ above_root (length rows) (λ s. s.inc == x) rows)
  above_by i r (Some p) here up later = let q : IsParent rows p i = (o.parents i p r here up).0 in later p q.row q.lower q.lives

  -- At or above a row one passes behind the mark as before or at the marked row, if so of lower rows.
  marked_by : (i : ℕ) (r : Row) (t : Bool) → (i == x) ≡ t → row_of rows i ≡ Some r → ((p : ℕ) (q : Row) → p < i → row_of rows p ≡ Some q → some_above P after p ≡ (some_above P rows p || is_below rows x p))
      → some_above P after i ≡ (some_above P rows i || is_below rows x i)
  marked_by i r true same here later =
      let is : i ≡ x = (unsigned_Decides i x).0 same in
      let there : row_of after i ≡ Some (f r) = subst (λ n. row_of (changed n f rows) i ≡ Some (f r)) is (row_of-changed i f keeps rows r here) in
      let own : is_below rows x i ≡ true = subst (λ n. is_below rows n i ≡ true) is (below_self rows next i r o here) in
      some_above-step P after next i (f r) on there
      ∙ ap (λ b. b || at_or_above (length after) P after (f r).parent) (hits r)
      ∙ sym (or-true (some_above P rows i)) ∙ sym (ap (λ b. some_above P rows i || b) own)
  marked_by i r false same here later =
      let differ : i ≡ x → ⊥ = λ e. true≢false (sym ((unsigned_Decides i x).1 e) ∙ same) in
      let there : row_of after i ≡ Some r = row_of-other f x i rows keeps differ ∙ here in
      let off : (r.inc == x) ≡ false = ap (λ n. n == x) (row_of-inc rows i r here) ∙ same in
      some_above-step P after next i r on there
      ∙ ap (λ b. P r || b) (above_by i r r.parent here refl later)
      ∙ shuffle (P r) (at_or_above (length rows) P rows r.parent) (at_or_above (length rows) (λ s. s.inc == x) rows r.parent)
      ∙ sym (ap (λ b. (P r || at_or_above (length rows) P rows r.parent) || (b || at_or_above (length rows) (λ s. s.inc == x) rows r.parent)) off)
      ∙ sym (ap (λ b. (P r || at_or_above (length rows) P rows r.parent) || b) (some_above-step (λ s. s.inc == x) rows next i r o here))
      ∙ sym (ap (λ b. b || is_below rows x i) (some_above-step P rows next i r o here))

  -- At or above a row below a bound one passes behind the mark as before or at the marked row.
  marked_below : (n i : ℕ) (r : Row) → i < n → row_of rows i ≡ Some r → some_above P after i ≡ (some_above P rows i || is_below rows x i)
  marked_below zero i r low here = absurd (omega arith)
  marked_below (suc n) i r low here = marked_by i r (i == x) refl here (λ p q less lives. marked_below n p q (lt_of_lt_suc p i n less low) lives)

  -- At or above any incarnation one passes behind the mark as before or at the marked row.
  marked_all : (i : ℕ) (q : Option Row) → row_of rows i ≡ q → some_above P after i ≡ (some_above P rows i || is_below rows x i)
  marked_all i (Some r) e = marked_below (suc i) i r (omega arith) e
  marked_all i None e =
      none_above P after i (none_changed rows x i f keeps e)
      ∙ sym (ap (λ b. b || is_below rows x i) (none_above P rows i e) ∙ none_above (λ s. s.inc == x) rows i e)

  -- a change that the test passes then: so do all at and below the row
  pub marked_changed : (i : ℕ) → some_above P after i ≡ (some_above P rows i || is_below rows x i)
  marked_changed i = marked_all i (row_of rows i) refl
