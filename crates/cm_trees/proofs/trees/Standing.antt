-- What stands below what in an orderly tree, and which row is the first that passes a test.
use Rattle.std.proofs.Common.{◌≡◌, ℕ, ◌<◌, ◌≤◌, List, [], ◌∷◌, Bool, true, false, cond, ◌==◌, true≢false, Option, Some, None, is_some, IsTrue, find, length, refl, sym, ◌∙◌, ap, inl, inr, ◌⊎◌, arith, zero, suc, ne_eqb, ◌||◌}
use Rattle.std.specs.Cmp.{unsigned_Decides}
use Rattle.std.proofs.lemmas.Bool.{or_left, or_right, or_cases}
use Rattle.cm_world.specs.declared.row.Row.{Row}
use Rattle.cm_world.specs.Rows.{row_of, at_or_above, is_below}
use Rattle.cm_world.specs.Sound.{IncarnationsIncrease, IsOrderly}
use Rattle.cm_world.proofs.lemmas.trees.Climbing.{some_above-step, above_root}
use Rattle.cm_world.proofs.lemmas.trees.Finding.{row_of-inc, none_some, some_same}

-- ---- below

-- where a row isn't there nothing is above it
pub nothing_above : (n : ℕ) (p : Row → Bool) (rows : List Row) (i : ℕ) → row_of rows i ≡ None → at_or_above n p rows (Some i) ≡ false
nothing_above zero p rows i none = refl
nothing_above (suc n) p rows i none = rw (none, at_or_above) refl

-- A row isn't at or below one that doesn't live, where nothing above it is.
pub nothing_by : (n top i : ℕ) (rows : List Row) (o : Option Row) → row_of rows top ≡ None → row_of rows i ≡ o → ((u : Option ℕ) → at_or_above n (λ r. r.inc == top) rows u ≡ false) → elim o as (λ _. Bool) [ None ↦ false | Some r ↦ (r.inc == top) || at_or_above n (λ s. s.inc == top) rows r.parent ] ≡ false
nothing_by n top i rows None none e later = refl
nothing_by n top i rows (Some r) none e later =
    let other : (r.inc == top) ≡ false = ne_eqb r.inc top (λ same. none_some r (sym none ∙ ap (row_of rows) (sym same ∙ row_of-inc rows i r e) ∙ e)) in
    rw other (later r.parent)

-- nothing is below a row that doesn't live
pub nothing_below : (n top : ℕ) (rows : List Row) (u : Option ℕ) → row_of rows top ≡ None → at_or_above n (λ r. r.inc == top) rows u ≡ false
nothing_below zero top rows u none = refl
nothing_below (suc n) top rows None none = refl
nothing_below (suc n) top rows (Some i) none = nothing_by n top i rows (row_of rows i) none refl (λ u. nothing_below n top rows u none)

-- A row that stands at or below another lives, where it may be there.
lives_by : (rows : List Row) (top i : ℕ) (o : Option Row) → row_of rows i ≡ o → IsTrue (is_below rows top i) → (r : Row) × (row_of rows i ≡ Some r)
lives_by rows top i None e below = absurd (true≢false (sym below ∙ nothing_above (length rows) (λ r. r.inc == top) rows i e))
lives_by rows top i (Some r) e below = (r, e)

-- what stands below another lives
pub below_lives : (rows : List Row) (top i : ℕ) → IsTrue (is_below rows top i) → (r : Row) × (row_of rows i ≡ Some r)
below_lives rows top i below = lives_by rows top i (row_of rows i) refl below

-- a row that lives stands below itself
pub below_self : (rows : List Row) (next i : ℕ) (r : Row) → IsOrderly rows next → row_of rows i ≡ Some r → IsTrue (is_below rows i i)
below_self rows next i r orderly lives =
    some_above-step (λ r. r.inc == i) rows next i r orderly lives
    ∙ or_left (r.inc == i) (at_or_above (length rows) (λ r. r.inc == i) rows r.parent) ((unsigned_Decides r.inc i).1 (row_of-inc rows i r lives))

-- A row whose parent stands at or below another stands below that one.
pub below_parent : (rows : List Row) (next top i p : ℕ) (r : Row) → IsOrderly rows next → row_of rows i ≡ Some r → r.parent ≡ Some p → IsTrue (is_below rows top p) → IsTrue (is_below rows top i)
below_parent rows next top i p r orderly lives parent below =
    some_above-step (λ r. r.inc == top) rows next i r orderly lives
    ∙ or_right (r.inc == top) (at_or_above (length rows) (λ r. r.inc == top) rows r.parent) (ap (at_or_above (length rows) (λ r. r.inc == top) rows) parent ∙ below)

-- Where the row is found at or above a parent, there is that parent, which stands below it.
above_by : (rows : List Row) (top : ℕ) (o : Option ℕ) → IsTrue (at_or_above (length rows) (λ r. r.inc == top) rows o) → (p : ℕ) × (o ≡ Some p) × IsTrue (is_below rows top p)
above_by rows top None h = absurd (true≢false (sym h ∙ above_root (length rows) (λ r. r.inc == top) rows))
above_by rows top (Some p) h = (p, refl, h)

-- a row below another is that one, or its parent is below it
pub below_cases : (rows : List Row) (next top i : ℕ) (r : Row) → IsOrderly rows next → row_of rows i ≡ Some r → IsTrue (is_below rows top i) → (i ≡ top) ⊎ ((p : ℕ) × (r.parent ≡ Some p) × IsTrue (is_below rows top p))
below_cases rows next top i r orderly lives below =
    elim (or_cases (r.inc == top) (at_or_above (length rows) (λ r. r.inc == top) rows r.parent) (sym (some_above-step (λ r. r.inc == top) rows next i r orderly lives) ∙ below)) [
      | inl here ↦ inl (sym (row_of-inc rows i r lives) ∙ (unsigned_Decides r.inc top).0 here)
      | inr above ↦ inr (above_by rows top r.parent above)
    ]

-- ---- the first row that passes

-- With one row more before others, the first that passes has no higher incarnation than another one.
pub least_by : (a b : Bool) (q : Row → Bool) (x : Row) (xs : List Row) (next i : ℕ) (r s : Row) → q x ≡ a → (x.inc == i) ≡ b → IncarnationsIncrease next (x ∷ xs) → (find q xs ≡ Some r → row_of xs i ≡ Some s → r.inc ≤ i) → cond a (Some x) (find q xs) ≡ Some r → cond b (Some x) (row_of xs i) ≡ Some s → IsTrue (q s) → r.inc ≤ i
least_by true true q x xs next i r s here at increasing later found lives passes =
    let own : x.inc ≡ i = (unsigned_Decides x.inc i).0 at in
    let same : x.inc ≡ r.inc = ap (λ z. z.inc) (some_same x r found) in
    omega arith
least_by true false q x xs next i r s here at increasing later found lives passes =
    let low : x.inc < i = increasing.0.1 i (ap is_some lives) in
    let same : x.inc ≡ r.inc = ap (λ z. z.inc) (some_same x r found) in
    omega arith
least_by false true q x xs next i r s here at increasing later found lives passes =
    absurd (true≢false (sym passes ∙ sym (ap q (some_same x s lives)) ∙ here))
least_by false false q x xs next i r s here at increasing later found lives passes = later found lives

-- the row that is found first has no higher incarnation than any row that passes
pub find_least : (q : Row → Bool) (rows : List Row) (next i : ℕ) (r s : Row) → IncarnationsIncrease next rows → find q rows ≡ Some r → row_of rows i ≡ Some s → IsTrue (q s) → r.inc ≤ i
find_least q [] next i r s increasing found lives passes = absurd (none_some r found)
find_least q (x ∷ xs) next i r s increasing found lives passes =
    least_by (q x) (x.inc == i) q x xs next i r s refl refl increasing (λ f l. find_least q xs next i r s increasing.1 f l passes) found lives passes

-- Where what is found by one test passes another, some row is found by that, if so in the rest.
found_by : (a b : Bool) (q : Row → Bool) (x : Row) (o t : Option Row) (s : Row) → q x ≡ a → (t ≡ Some s → (r : Row) × (o ≡ Some r)) → cond b (Some x) t ≡ Some s → IsTrue (q s) → (r : Row) × (cond a (Some x) o ≡ Some r)
found_by true b q x o t s here later lives passes = (x, refl)
found_by false true q x o t s here later lives passes =
    absurd (true≢false (sym passes ∙ sym (ap q (some_same x s lives)) ∙ here))
found_by false false q x o t s here later lives passes = later lives

-- where a row that lives passes, one is found
pub find_some : (q : Row → Bool) (rows : List Row) (i : ℕ) (s : Row) → row_of rows i ≡ Some s → IsTrue (q s) → (r : Row) × (find q rows ≡ Some r)
find_some q [] i s lives passes = absurd (none_some s lives)
find_some q (x ∷ xs) i s lives passes =
    found_by (q x) (x.inc == i) q x (find q xs) (row_of xs i) s refl (λ l. find_some q xs i s l passes) lives passes
