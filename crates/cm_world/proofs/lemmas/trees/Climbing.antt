-- Up the tree, row by row. In an orderly tree there are rows enough for every way up, so what is read of a row and those above
-- it is what its own row says, and what is read of its parent.
use Rattle.std.proofs.Common.{◌≡◌, ℕ, zero, suc, ◌+◌, ◌<◌, ◌≤◌, List, [], ◌∷◌, ◌++◌, Bool, true, false, cond, ◌||◌, ◌==◌, nat_lt, true≢false, Option, Some, None, length, option_to_list, refl, sym, ◌∙◌, ap, arith, add-lt-add_of_le_of_lt, add-le-add, lt_trans}
use Rattle.std.specs.Cmp.{unsigned_Decides}
use Rattle.std.proofs.lemmas.Bool.{lt-ltb, ltb-true, le-ltb}
use Rattle.cm_names.specs.declared.child.ChildName.{ChildName}
use Rattle.cm_facts.proofs.Numbers.{lt_of_lt_suc, lt_before}
use Rattle.cm_world.specs.declared.row.Row.{Row}
use Rattle.cm_world.specs.Rows.{row_of, at_or_above, some_above, names_to, line_from, line_of}
use Rattle.cm_world.specs.Sound.{IsOrderly, IsParent}
use Rattle.cm_world.proofs.lemmas.trees.Finding.{none_some}

-- ---- how many rows have a lower incarnation

-- One where a test passes, and zero where it doesn't.
one_if : Bool → ℕ
one_if true = 1
one_if false = 0

-- How many rows have a lower incarnation than this one.
pub rank : List Row → ℕ → ℕ
rank [] i = 0
rank (r ∷ rs) i = one_if (nat_lt r.inc i) + rank rs i

-- A number is counted below a higher one wherever it is counted below a lower one.
ones : (s t : Bool) (a p i : ℕ) → nat_lt a p ≡ s → nat_lt a i ≡ t → p < i → one_if s ≤ one_if t
unfolding one_if
ones false false a p i low high up = omega arith
ones false true a p i low high up = omega arith
ones true true a p i low high up = omega arith
ones true false a p i low high up =
    let less : a < p = ltb-true a p low in absurd (true≢false (sym (lt-ltb a i (omega arith)) ∙ high))

-- No more rows are below a lower incarnation than below a higher one.
rank-le : (rows : List Row) (p i : ℕ) → p < i → rank rows p ≤ rank rows i
unfolding rank
rank-le [] p i up = omega arith
rank-le (r ∷ rs) p i up =
    add-le-add (ones (nat_lt r.inc p) (nat_lt r.inc i) r.inc p i refl refl up) (rank-le rs p i up)

-- A sum with one more and no less in the rest is greater.
sum_more : (a b n m : ℕ) → a ≡ 0 → b ≡ 1 → n ≤ m → a + n < b + m
sum_more a b n m x y z = omega arith

-- A number isn't counted below one that is the same.
none_below : (a p : ℕ) → a ≡ p → one_if (nat_lt a p) ≡ 0
unfolding one_if
none_below a p same = rw (le-ltb a p (omega arith)) refl

-- A number that is the same as a lower one is counted once below a higher one.
one_below : (a p i : ℕ) → a ≡ p → p < i → one_if (nat_lt a i) ≡ 1
unfolding one_if
one_below a p i same up = rw (lt-ltb a i (omega arith)) refl

-- Fewer rows are below a row that lives than below a higher incarnation, if so in the rest.
less_by : (t : Bool) (r q : Row) (rs : List Row) (p i : ℕ) → (r.inc == p) ≡ t → p < i → (row_of rs p ≡ Some q → rank rs p < rank rs i) → cond t (Some r) (row_of rs p) ≡ Some q → rank (r ∷ rs) p < rank (r ∷ rs) i
unfolding rank
less_by true r q rs p i same up later e =
    let own : r.inc ≡ p = (unsigned_Decides r.inc p).0 same in
    sum_more (one_if (nat_lt r.inc p)) (one_if (nat_lt r.inc i)) (rank rs p) (rank rs i) (none_below r.inc p own) (one_below r.inc p i own up) (rank-le rs p i up)
less_by false r q rs p i same up later e =
    add-lt-add_of_le_of_lt (ones (nat_lt r.inc p) (nat_lt r.inc i) r.inc p i refl refl up) (later e)

-- a row that lives below another incarnation has fewer rows below it
pub rank-less : (rows : List Row) (p i : ℕ) (q : Row) → p < i → row_of rows p ≡ Some q → rank rows p < rank rows i
rank-less [] p i q up e = absurd (none_some q e)
rank-less (r ∷ rs) p i q up e = less_by (r.inc == p) r q rs p i refl up (rank-less rs p i q up) e

-- What is counted for one test is at most one.
at_most_one : (t : Bool) → one_if t ≤ 1
unfolding one_if
at_most_one true = omega arith
at_most_one false = omega arith

-- No more rows are below an incarnation than there are.
rank-length : (rows : List Row) (i : ℕ) → rank rows i ≤ length rows
unfolding rank
rank-length [] i = omega arith
rank-length (r ∷ rs) i =
    let here : one_if (nat_lt r.inc i) ≤ 1 = at_most_one (nat_lt r.inc i) in
    let later : rank rs i ≤ length rs = rank-length rs i in omega arith

-- Fewer rows than there are stand below one that lives, if so in the rest.
within_by : (t : Bool) (r q : Row) (rs : List Row) (i : ℕ) → (r.inc == i) ≡ t → (row_of rs i ≡ Some q → rank rs i < length rs) → cond t (Some r) (row_of rs i) ≡ Some q → rank (r ∷ rs) i < length (r ∷ rs)
unfolding rank
within_by true r q rs i same later e =
    let own : one_if (nat_lt r.inc i) ≡ 0 = none_below r.inc i ((unsigned_Decides r.inc i).0 same) in
    let rest : rank rs i ≤ length rs = rank-length rs i in omega arith
within_by false r q rs i same later e =
    let here : one_if (nat_lt r.inc i) ≤ 1 = at_most_one (nat_lt r.inc i) in
    let rest : rank rs i < length rs = later e in omega arith

-- a row that lives isn't among those below it
pub rank-within : (rows : List Row) (i : ℕ) (r : Row) → row_of rows i ≡ Some r → rank rows i < length rows
rank-within [] i r e = absurd (none_some r e)
rank-within (s ∷ ss) i r e = within_by (s.inc == i) s r ss i refl (rank-within ss i r) e

-- ---- a row's parent has fewer rows below it

-- In orderly rows fewer rows are below a row's parent than below the row.
parent_rank : (rows : List Row) (next i p : ℕ) (r : Row) → IsOrderly rows next → row_of rows i ≡ Some r → r.parent ≡ Some p → rank rows p < rank rows i
parent_rank rows next i p r orderly lives below =
    let parent : IsParent rows p i = (orderly.parents i p r lives below).0 in
    rank-less rows p i parent.row parent.lower parent.lives

-- ---- what is made of a row and those above it

-- of the rows from one up, at most n of them: z of none, and step of a row, its incarnation and what is made of those above it
up_from : {A : Type 0} → A → (ℕ → Row → A → A) → ℕ → List Row → Option ℕ → A
up_from z step zero rows o = z
up_from z step (suc n) rows None = z
up_from {A} z step (suc n) rows (Some i) = elim (row_of rows i) as (λ _. A) [ None ↦ z | Some r ↦ step i r (up_from z step n rows r.parent) ]

-- Of no row nothing is made up the tree.
up_none : {A : Type 0} (z : A) (step : ℕ → Row → A → A) (n : ℕ) (rows : List Row) → up_from z step n rows None ≡ z
unfolding up_from
up_none z step zero rows = refl
up_none z step (suc n) rows = refl

-- What is made up the tree from a row's parent is the same with different bounds, where it is so.
up_parent : {A : Type 0} (z : A) (step : ℕ → Row → A → A) (n m : ℕ) (rows : List Row) (r : Row) (o : Option ℕ) → r.parent ≡ o → ((p : ℕ) → r.parent ≡ Some p → up_from z step n rows (Some p) ≡ up_from z step m rows (Some p)) → up_from z step n rows o ≡ up_from z step m rows o
up_parent z step n m rows r None e more = up_none z step n rows ∙ sym (up_none z step m rows)
up_parent z step n m rows r (Some p) e more = more p e

-- What is made of a row and those above is the same with different bounds, where so of its parent.
up_row : {A : Type 0} (z : A) (step : ℕ → Row → A → A) (n m : ℕ) (rows : List Row) (i : ℕ) (o : Option Row) → row_of rows i ≡ o → ((r : Row) (p : ℕ) → row_of rows i ≡ Some r → r.parent ≡ Some p → up_from z step n rows (Some p) ≡ up_from z step m rows (Some p)) → elim o as (λ _. A) [ None ↦ z | Some r ↦ step i r (up_from z step n rows r.parent) ] ≡ elim o as (λ _. A) [ None ↦ z | Some r ↦ step i r (up_from z step m rows r.parent) ]
up_row z step n m rows i None e more = refl
up_row z step n m rows i (Some r) e more = ap (step i r) (up_parent z step n m rows r r.parent refl (λ p below. more r p e below))

-- more steps than there are rows below it change nothing
up_enough : {A : Type 0} (z : A) (step : ℕ → Row → A → A) (n m : ℕ) (rows : List Row) (next i : ℕ) → IsOrderly rows next → rank rows i < n → rank rows i < m → up_from z step n rows (Some i) ≡ up_from z step m rows (Some i)
unfolding up_from
up_enough z step zero m rows next i orderly low high = absurd (omega arith)
up_enough z step (suc n) zero rows next i orderly low high = absurd (omega arith)
up_enough z step (suc n) (suc m) rows next i orderly low high =
    up_row z step n m rows i (row_of rows i) refl
    (λ r p lives below. let less : rank rows p < rank rows i = parent_rank rows next i p r orderly lives below in
    up_enough z step n m rows next p orderly (lt_of_lt_suc (rank rows p) (rank rows i) n less low) (lt_of_lt_suc (rank rows p) (rank rows i) m less high))

-- Where a row lives, the number of rows isn't zero.
size_by : (n : ℕ) (rows : List Row) (i : ℕ) (r : Row) → row_of rows i ≡ Some r → length rows ≡ n → (m : ℕ) × (length rows ≡ suc m)
size_by zero rows i r lives e = let within : rank rows i < length rows = rank-within rows i r lives in absurd (omega arith)
size_by (suc m) rows i r lives e = (m, e)

-- what is made of a row is its step of what is made of its parent
up_step : {A : Type 0} (z : A) (step : ℕ → Row → A → A) (rows : List Row) (next i : ℕ) (r : Row) → IsOrderly rows next → row_of rows i ≡ Some r → up_from z step (length rows) rows (Some i) ≡ step i r (up_from z step (length rows) rows r.parent)
unfolding up_from
up_step {A} z step rows next i r orderly lives =
    let size : (m : ℕ) × (length rows ≡ suc m) = size_by (length rows) rows i r lives refl in
    let within : rank rows i < length rows = rank-within rows i r lives in
    let above : up_from z step size.0 rows r.parent ≡ up_from z step (length rows) rows r.parent = up_parent z step size.0 (length rows) rows r r.parent refl
    (λ p below. let less : rank rows p < rank rows i = parent_rank rows next i p r orderly lives below in
    up_enough z step size.0 (length rows) rows next p orderly (lt_before (rank rows p) (rank rows i) (length rows) size.0 less within size.1) (lt_trans less within)) in
    ap (λ n. up_from z step n rows (Some i)) size.1 ∙ ap (λ o. elim o as (λ _. A) [ None ↦ z | Some q ↦ step i q (up_from z step size.0 rows q.parent) ]) lives ∙ ap (step i r) above

-- ---- tests, names and lines

-- Whether a row at or above one passes a test is made row by row up the tree.
tests_up : (n : ℕ) (passes : Row → Bool) (rows : List Row) (o : Option ℕ) → at_or_above n passes rows o ≡ up_from false (λ i r b. passes r || b) n rows o
unfolding up_from
tests_up zero passes rows o = refl
tests_up (suc n) passes rows None = refl
tests_up (suc n) passes rows (Some i) = test_by (row_of rows i) (λ r. tests_up n passes rows r.parent) where
  test_by : (o : Option Row) → ((r : Row) → at_or_above n passes rows r.parent ≡ up_from false (λ i r b. passes r || b) n rows r.parent) → elim o as (λ _. Bool) [ None ↦ false | Some r ↦ passes r || at_or_above n passes rows r.parent ] ≡ elim o as (λ _. Bool) [ None ↦ false | Some r ↦ passes r || up_from false (λ i r b. passes r || b) n rows r.parent ]
  test_by None more = refl
  test_by (Some r) more = ap (λ b. passes r || b) (more r)

-- The names of a row and of those above it are made row by row up the tree.
names_up : (n : ℕ) (rows : List Row) (o : Option ℕ) → names_to n rows o ≡ up_from [] (λ i r names. names ++ option_to_list r.name) n rows o
unfolding up_from
names_up zero rows o = refl
names_up (suc n) rows None = refl
names_up (suc n) rows (Some i) = name_by (row_of rows i) (λ r. names_up n rows r.parent) where
  name_by : (o : Option Row) → ((r : Row) → names_to n rows r.parent ≡ up_from [] (λ i r names. names ++ option_to_list r.name) n rows r.parent) → elim o as (λ _. List ChildName) [ None ↦ [] | Some r ↦ names_to n rows r.parent ++ option_to_list r.name ] ≡ elim o as (λ _. List ChildName) [ None ↦ [] | Some r ↦ up_from [] (λ i r names. names ++ option_to_list r.name) n rows r.parent ++ option_to_list r.name ]
  name_by None more = refl
  name_by (Some r) more = ap (λ names. names ++ option_to_list r.name) (more r)

-- The line from the top down to a row is made row by row up the tree.
line_up : (n : ℕ) (rows : List Row) (o : Option ℕ) → line_from n rows o ≡ up_from [] (λ i r line. i ∷ line) n rows o
unfolding up_from
line_up zero rows o = refl
line_up (suc n) rows None = refl
line_up (suc n) rows (Some i) = line_by (row_of rows i) (λ r. line_up n rows r.parent) where
  line_by : (o : Option Row) → ((r : Row) → line_from n rows r.parent ≡ up_from [] (λ i r line. i ∷ line) n rows r.parent) → elim o as (λ _. List ℕ) [ None ↦ [] | Some r ↦ i ∷ line_from n rows r.parent ] ≡ elim o as (λ _. List ℕ) [ None ↦ [] | Some r ↦ i ∷ up_from [] (λ i r line. i ∷ line) n rows r.parent ]
  line_by None more = refl
  line_by (Some r) more = ap (λ line. i ∷ line) (more r)

-- a row or one above it passes where it passes itself, or its parent or one above that does
pub some_above-step : (passes : Row → Bool) (rows : List Row) (next i : ℕ) (r : Row) → IsOrderly rows next → row_of rows i ≡ Some r → some_above passes rows i ≡ (passes r || at_or_above (length rows) passes rows r.parent)
some_above-step passes rows next i r orderly lives =
    tests_up (length rows) passes rows (Some i)
    ∙ up_step false (λ i r b. passes r || b) rows next i r orderly lives
    ∙ sym (ap (λ b. passes r || b) (tests_up (length rows) passes rows r.parent))

-- the names down to a row are those down to its parent, and its own
pub names_to-step : (rows : List Row) (next i : ℕ) (r : Row) → IsOrderly rows next → row_of rows i ≡ Some r → names_to (length rows) rows (Some i) ≡ names_to (length rows) rows r.parent ++ option_to_list r.name
names_to-step rows next i r orderly lives =
    names_up (length rows) rows (Some i)
    ∙ up_step [] (λ i r names. names ++ option_to_list r.name) rows next i r orderly lives
    ∙ sym (ap (λ names. names ++ option_to_list r.name) (names_up (length rows) rows r.parent))

-- the line of a row is the row, and the line of its parent
pub line_of-step : (rows : List Row) (next i : ℕ) (r : Row) → IsOrderly rows next → row_of rows i ≡ Some r → line_of rows i ≡ i ∷ line_from (length rows) rows r.parent
line_of-step rows next i r orderly lives =
    line_up (length rows) rows (Some i)
    ∙ up_step [] (λ i r line. i ∷ line) rows next i r orderly lives
    ∙ sym (ap (λ line. i ∷ line) (line_up (length rows) rows r.parent))

-- nothing stands above the root
pub above_root : (n : ℕ) (passes : Row → Bool) (rows : List Row) → at_or_above n passes rows None ≡ false
above_root zero passes rows = refl
above_root (suc n) passes rows = refl

-- Above the root there are no names.
pub names_root : (n : ℕ) (rows : List Row) → names_to n rows None ≡ []
names_root zero rows = refl
names_root (suc n) rows = refl

-- Above the root there are no rows in a line up.
pub line_root : (n : ℕ) (rows : List Row) → line_from n rows None ≡ []
line_root zero rows = refl
line_root (suc n) rows = refl
