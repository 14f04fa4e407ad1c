-- Rows without one that has no children.
use Rattle.std.proofs.Common.{◌≡◌, ℕ, zero, suc, ◌+◌, ◌<◌, List, [], ◌∷◌, Bool, true, false, cond, not, ◌&&◌, ◌||◌, ◌==◌, nat_eq, true≢false, Option, Some, None, IsSome, IsTrue, find, filter, length, refl, sym, ◌∙◌, ap, arith, ne_eqb, ne_of_lt}
use Rattle.std.specs.Option.{option_eq}
use Rattle.std.specs.Cmp.{unsigned_Decides}
use Rattle.cm_facts.proofs.Numbers.{lt_of_lt_suc}
use Rattle.cm_facts.proofs.Options.{option_map_none, cond_some_more, is_some_true}
use Rattle.cm_world.specs.declared.row.Row.{Row}
use Rattle.cm_world.specs.Edits.{drop_first}
use Rattle.cm_world.specs.Rows.{row_of, at_or_above, some_above, is_below}
use Rattle.cm_world.specs.RowsInside.{child_behind}
use Rattle.cm_world.specs.After.{others_than}
use Rattle.cm_world.specs.Sound.{IncarnationsIncrease, IsOrderly, IsParent}
use Rattle.cm_world.proofs.lemmas.trees.Finding.{none_some}
use Rattle.cm_world.proofs.lemmas.trees.Climbing.{some_above-step, above_root}
use Rattle.cm_table.specs.Reading.{follows}
use Rattle.cm_trees.proofs.rows.Rows.{is_some_by}
use Rattle.cm_trees.proofs.rows.Adding.{missed}
use Rattle.cm_trees.proofs.rows.Finding.{later_row}
use Rattle.cm_trees.proofs.trees.Standing.{nothing_below}

-- the rows without that of an incarnation
abbrev pub without : ℕ → List Row → List Row
without i rows = drop_first (λ r. r.inc == i) rows

-- ---- which rows are left

-- A row that is left was there before one was taken away, if so in the rest.
left_at : (t : Bool) (i next j : ℕ) (x s : Row) (xs : List Row) → IncarnationsIncrease next (x ∷ xs) → (row_of (without i xs) j ≡ Some s → row_of xs j ≡ Some s) → row_of (cond t xs (x ∷ without i xs)) j ≡ Some s → row_of (x ∷ xs) j ≡ Some s
left_at true i next j x s xs increasing later e =
    let miss : (x.inc == j) ≡ false = ne_eqb x.inc j (ne_of_lt (increasing.0.1 j (is_some_by (row_of xs j) s e))) in
    rw miss e
left_at false i next j x s xs increasing later e = cond_some_more (x.inc == j) x s (row_of (without i xs) j) (row_of xs j) later e

-- what is left was there
pub was_there : (i next j : ℕ) (rows : List Row) (s : Row) → IncarnationsIncrease next rows → row_of (without i rows) j ≡ Some s → row_of rows j ≡ Some s
was_there i next j [] s increasing e = absurd (none_some s e)
was_there i next j (x ∷ xs) s increasing e = left_at (x.inc == i) i next j x s xs increasing (was_there i next j xs s increasing.1) e

-- A row found behind one that isn't the row taken away isn't that row, if so in the rest.
not_by : (u : Bool) (i j : ℕ) (x s : Row) (o : Option Row) → (x.inc == j) ≡ u → (x.inc == i) ≡ false → (o ≡ Some s → j ≡ i → ⊥) → cond u (Some x) o ≡ Some s → j ≡ i → ⊥
not_by true i j x s o same other later e is = true≢false (sym (ap (λ n. x.inc == n) (sym is) ∙ same) ∙ other)
not_by false i j x s o same other later e is = later e is

-- A row that is left isn't the one that was taken away, if so in the rest.
not_at : (t : Bool) (i next j : ℕ) (x s : Row) (xs : List Row) → (x.inc == i) ≡ t → IncarnationsIncrease next (x ∷ xs) → (row_of (without i xs) j ≡ Some s → j ≡ i → ⊥) → row_of (cond t xs (x ∷ without i xs)) j ≡ Some s → j ≡ i → ⊥
not_at true i next j x s xs own increasing later e is =
    ne_of_lt (increasing.0.1 j (is_some_by (row_of xs j) s e)) ((unsigned_Decides x.inc i).0 own ∙ sym is)
not_at false i next j x s xs own increasing later e is = not_by (x.inc == j) i j x s (row_of (without i xs) j) refl own later e is

-- A row that is left isn't the one that was taken away.
pub not_taken : (i next j : ℕ) (rows : List Row) (s : Row) → IncarnationsIncrease next rows → row_of (without i rows) j ≡ Some s → j ≡ i → ⊥
not_taken i next j [] s increasing e is = absurd (none_some s e)
not_taken i next j (x ∷ xs) s increasing e is = not_at (x.inc == i) i next j x s xs refl increasing (not_taken i next j xs s increasing.1) e is

-- A row with another incarnation than the first one's is found in the rest.
past_by : (u : Bool) (i j : ℕ) (x s : Row) (o : Option Row) → (x.inc == j) ≡ u → (x.inc == i) ≡ true → (j ≡ i → ⊥) → cond u (Some x) o ≡ Some s → o ≡ Some s
past_by true i j x s o same own differ e = absurd (differ (sym ((unsigned_Decides x.inc j).0 same) ∙ (unsigned_Decides x.inc i).0 own))
past_by false i j x s o same own differ e = e

-- A row other than the one taken away is left, if so in the rest.
stays_at : (t : Bool) (i j : ℕ) (x s : Row) (xs : List Row) → (x.inc == i) ≡ t → (j ≡ i → ⊥) → (row_of xs j ≡ Some s → row_of (without i xs) j ≡ Some s) → row_of (x ∷ xs) j ≡ Some s → row_of (cond t xs (x ∷ without i xs)) j ≡ Some s
stays_at true i j x s xs own differ later e = past_by (x.inc == j) i j x s (row_of xs j) refl own differ e
stays_at false i j x s xs own differ later e = cond_some_more (x.inc == j) x s (row_of xs j) (row_of (without i xs) j) later e

-- every other row is left
pub stays : (i j : ℕ) (rows : List Row) (s : Row) → (j ≡ i → ⊥) → row_of rows j ≡ Some s → row_of (without i rows) j ≡ Some s
stays i j [] s differ e = absurd (none_some s e)
stays i j (x ∷ xs) s differ e = stays_at (x.inc == i) i j x s xs refl differ (stays i j xs s differ) e

-- Incarnations still increase where a row is taken away, if so in the rest.
increasing_at : (t : Bool) (i next : ℕ) (x : Row) (xs : List Row) → IncarnationsIncrease next (x ∷ xs) → IncarnationsIncrease next (without i xs) → IncarnationsIncrease next (cond t xs (x ∷ without i xs))
increasing_at true i next x xs increasing later = increasing.1
increasing_at false i next x xs increasing later = (
  (
    increasing.0.0,
    λ s h. let q : (y : Row) × (row_of (without i xs) s ≡ Some y) = is_some_true (row_of (without i xs) s) h in
        increasing.0.1 s (is_some_by (row_of xs s) q.0 (was_there i next s xs q.0 increasing.1 q.1)),
  ),
  later,
)

-- Where incarnations increase along rows, they do without one of them.
pub increasing_without : (i next : ℕ) (rows : List Row) → IncarnationsIncrease next rows → IncarnationsIncrease next (without i rows)
increasing_without i next [] increasing = tt
increasing_without i next (x ∷ xs) increasing = increasing_at (x.inc == i) i next x xs increasing (increasing_without i next xs increasing.1)

-- ---- a row without children

-- A parent that is the row passes the test for its children.
has_by : (i p : ℕ) (o : Option ℕ) → o ≡ Some p → p ≡ i → (option_eq nat_eq o (Some i) && true) ≡ true
has_by i p o up is = ap (λ z. option_eq nat_eq z (Some i) && true) (up ∙ ap Some is) ∙ ap (λ b. b && true) ((unsigned_Decides i i).1 refl)

-- Where a row has no children, no living row has it as parent.
no_parent : (rows : List Row) (i j p : ℕ) (s : Row) → child_behind rows i None ≡ None → row_of rows j ≡ Some s → s.parent ≡ Some p → p ≡ i → ⊥
no_parent rows i j p s childless here up is =
    let none : find (follows i None) rows ≡ None = option_map_none (λ (r : Row). r.inc) (find (follows i None) rows) childless in
    true≢false (sym (has_by i p s.parent up is) ∙ missed (follows i None) (λ r. r.inc == j) rows s none here)

-- A row's parent lives without a row that has no children, and the row has a name.
parents_without : (rows : List Row) (next i j p : ℕ) (s : Row) → IsOrderly rows next → child_behind rows i None ≡ None → row_of rows j ≡ Some s → s.parent ≡ Some p → IsParent (without i rows) p j × IsSome s.name
parents_without rows next i j p s o childless here up =
    let q : IsParent rows p j × IsSome s.name = o.parents j p s here up in
    (record { row = q.0.row; lives = stays i p rows q.0.row (no_parent rows i j p s childless here up) q.0.lives; resolved = q.0.resolved; lower = q.0.lower }, q.1)

-- rows stay orderly without it
pub orderly_without : (rows : List Row) (next i : ℕ) → IsOrderly rows next → child_behind rows i None ≡ None → IsOrderly (without i rows) next
orderly_without rows next i o childless = record {
  increasing = increasing_without i next rows o.increasing;
  root = λ j s here. o.root j s (was_there i next j rows s o.increasing here);
  parents = λ j p s here. parents_without rows next i j p s o childless (was_there i next j rows s o.increasing here);
  one_name = λ j k s t here there. o.one_name j k s t (was_there i next j rows s o.increasing here) (was_there i next k rows t o.increasing there);
  valid = λ j s d here. o.valid j s d (was_there i next j rows s o.increasing here);
}

-- ---- what is read above the other rows

-- What is at or above a row's parent is so without a childless row, where it is so for that parent.
above_by : (passes : Row → Bool) (rows : List Row) (next i n m : ℕ) (s : Row) (o : Option ℕ) → s.parent ≡ o → ((p : ℕ) → s.parent ≡ Some p → at_or_above n passes (without i rows) (Some p) ≡ at_or_above m passes rows (Some p)) → at_or_above n passes (without i rows) o ≡ at_or_above m passes rows o
above_by passes rows next i n m s None e later = above_root n passes (without i rows) ∙ sym (above_root m passes rows)
above_by passes rows next i n m s (Some p) e later = later p e

-- What is at or above a row that is left is as before, without a row that has no children.
above_below : (n : ℕ) (passes : Row → Bool) (rows : List Row) (next i j : ℕ) (s : Row) → IsOrderly rows next → child_behind rows i None ≡ None → j < n → row_of (without i rows) j ≡ Some s → some_above passes (without i rows) j ≡ some_above passes rows j
above_below zero passes rows next i j s o childless low here = absurd (omega arith)
above_below (suc n) passes rows next i j s o childless low here =
    let rest : IsOrderly (without i rows) next = orderly_without rows next i o childless in
    some_above-step passes (without i rows) next j s rest here
    ∙ ap (λ b. passes s || b) (above_by passes rows next i (length (without i rows)) (length rows) s s.parent refl
    (λ p up. let q : IsParent (without i rows) p j = (rest.parents j p s here up).0 in
    above_below n passes rows next i p q.row o childless (lt_of_lt_suc p j n q.lower low) q.lives))
    ∙ sym (some_above-step passes rows next j s o (was_there i next j rows s o.increasing here))

-- What is at or above another row is the same where a row without children is left out.
pub above_same : (passes : Row → Bool) (rows : List Row) (next i j : ℕ) (s : Row) → IsOrderly rows next → child_behind rows i None ≡ None → row_of (without i rows) j ≡ Some s → some_above passes (without i rows) j ≡ some_above passes rows j
above_same passes rows next i j s o childless here = above_below (j + 1) passes rows next i j s o childless (omega arith) here

-- ---- the rows that aren't at or below one

-- Two lists with one row more in front, if it is kept, are the same where both tests and rests are.
filter_by : (b c : Bool) (x : Row) (ys zs : List Row) → b ≡ c → ys ≡ zs → cond b (x ∷ ys) ys ≡ cond c (x ∷ zs) zs
filter_by b c x ys zs same rest = ap (λ t. cond t (x ∷ ys) ys) same ∙ ap (λ l. cond c (x ∷ l) l) rest

-- two tests that agree on rows that live leave the same rows
filter_same : (p q : Row → Bool) (next : ℕ) (xs : List Row) → IncarnationsIncrease next xs → ((r : Row) → row_of xs r.inc ≡ Some r → p r ≡ q r) → filter p xs ≡ filter q xs
filter_same p q next [] increasing same = refl
filter_same p q next (x ∷ xs) increasing same =
    let own : row_of (x ∷ xs) x.inc ≡ Some x = rw ((unsigned_Decides x.inc x.inc).1 refl) refl in
    filter_by (p x) (q x) x (filter p xs) (filter q xs) (same x own)
    (filter_same p q next xs increasing.1 (λ r here. same r (later_row next x r xs increasing here)))

-- Rows that pass a test are left as they were without one that fails it, if so in the rest.
dropped_at : (t : Bool) (q : Row → Bool) (i : ℕ) (x : Row) (xs : List Row) → (x.inc == i) ≡ t → (x.inc ≡ i → q x ≡ false) → filter q (without i xs) ≡ filter q xs → filter q (cond t xs (x ∷ without i xs)) ≡ filter q (x ∷ xs)
dropped_at true q i x xs own fails later = sym (rw (fails ((unsigned_Decides x.inc i).0 own)) refl)
dropped_at false q i x xs own fails later = filter_by (q x) (q x) x (filter q (without i xs)) (filter q xs) refl later

-- a row that fails a test can be taken away before
filter_dropped : (q : Row → Bool) (i : ℕ) (xs : List Row) → ((r : Row) → r.inc ≡ i → q r ≡ false) → filter q (without i xs) ≡ filter q xs
filter_dropped q i [] fails = refl
filter_dropped q i (x ∷ xs) fails = dropped_at (x.inc == i) q i x xs refl (fails x) (filter_dropped q i xs fails)

-- where a row without children at or below one is taken away, the rows that aren't at or below that one are the same
pub others_without : (rows : List Row) (next top i : ℕ) → IsOrderly rows next → child_behind rows i None ≡ None → IsTrue (is_below rows top i) → others_than (without i rows) top ≡ others_than rows top
others_without rows next top i o childless below =
    filter_same (λ r. not (is_below (without i rows) top r.inc)) (λ r. not (is_below rows top r.inc)) next (without i rows) (increasing_without i next rows o.increasing)
    (λ r here. ap not (above_same (λ s. s.inc == top) rows next i r.inc r o childless here))
    ∙ filter_dropped (λ r. not (is_below rows top r.inc)) i rows (λ r own. ap (λ n. not (is_below rows top n)) own ∙ ap not below)

-- A test that all rows pass leaves them all.
filter_all : (q : Row → Bool) (xs : List Row) → ((r : Row) → q r ≡ true) → filter q xs ≡ xs
filter_all q [] all = refl
filter_all q (x ∷ xs) all = rw (all x) (ap (λ l. x ∷ l) (filter_all q xs all))

-- Where a row doesn't live, no other row is at or below it.
pub others_than_none : (rows : List Row) (top : ℕ) → row_of rows top ≡ None → others_than rows top ≡ rows
others_than_none rows top none = filter_all (λ r. not (is_below rows top r.inc)) rows (λ r. ap not (nothing_below (length rows) top rows (Some r.inc) none))
