-- What is told of the rows below one, one after another.
use Rattle.std.proofs.Common.{◌≡◌, ℕ, zero, suc, ◌+◌, ◌<◌, ◌≤◌, List, [], ◌∷◌, ◌++◌, Bool, true, false, cond, ◌==◌, Option, Some, None, is_some, filter, map, length, take, get_or, option_to_list, refl, sym, ◌∙◌, ap, arith}
use Rattle.std.specs.Cmp.{unsigned_Decides}
use Rattle.std.specs.List.{filter_map}
use Rattle.std.proofs.lemmas.List.{get_or-map, length-map, take_more, take_all}
use Rattle.std.proofs.lemmas.List.Elements.{filter_map-append}
use Rattle.cm_facts.proofs.Numbers.{eq_of_lt}
use Rattle.cm_world.specs.declared.row.Row.{Row}
use Rattle.cm_world.specs.Rows.{row_of, is_below, subtree}
use Rattle.cm_world.specs.Sound.{IncarnationsIncrease, IsOrderly}
use Rattle.cm_world.specs.World.{root_row}

-- ---- rows of a list

-- A row that is found is found with a lower one in front.
lives_later : (x : Row) (xs : List Row) (next i : ℕ) (r : Row) → IncarnationsIncrease next (x ∷ xs) → row_of xs i ≡ Some r → row_of (x ∷ xs) i ≡ Some r
lives_later x xs next i r increasing lives =
    let low : x.inc < i = increasing.0.1 i (ap is_some lives) in
    rw (eq_of_lt (x.inc == i) x.inc i refl low) lives

-- each row of those that pass a test is the row of its incarnation
lives_at : (p : Row → Bool) (rows : List Row) (next i : ℕ) (d : Row) → IncarnationsIncrease next rows → i < length (filter p rows) → row_of rows (get_or (filter p rows) i d).inc ≡ Some (get_or (filter p rows) i d)
lives_at p [] next i d increasing low = absurd (omega arith)
lives_at p (x ∷ xs) next i d increasing low = by (p x) refl i low (λ k within. lives_at p xs next k d increasing.1 within) where
  by : (t : Bool) → p x ≡ t → (i : ℕ) → i < length (cond t (x ∷ filter p xs) (filter p xs)) → ((k : ℕ) → k < length (filter p xs) → row_of xs (get_or (filter p xs) k d).inc ≡ Some (get_or (filter p xs) k d)) → row_of (x ∷ xs) (get_or (cond t (x ∷ filter p xs) (filter p xs)) i d).inc ≡ Some (get_or (cond t (x ∷ filter p xs) (filter p xs)) i d)
  by true e zero low later = rw ((unsigned_Decides x.inc x.inc).1 refl) refl
  by true e (suc k) low later = lives_later x xs next (get_or (filter p xs) k d).inc (get_or (filter p xs) k d) increasing (later k (omega arith))
  by false e i low later = lives_later x xs next (get_or (filter p xs) i d).inc (get_or (filter p xs) i d) increasing (later i low)

-- ---- a loop over the rows below one

-- What is told of one item alone is what it is told, or nothing.
pub one_told : {A B : Type 0} (o : Option B) (h : A → Option B) (r : A) → h r ≡ o → filter_map h (r ∷ []) ≡ option_to_list o
one_told None h r e = rw e refl
one_told (Some b) h r e = rw e refl

-- With one row more looked at, what was told is that of the rows so far.
pub told_more : {B : Type 0} (rows : List Row) (next top i inc : ℕ) (h : Row → Option B) (incs : List ℕ) (found : Option B) (seen more : List B) → IsOrderly rows next → i < length incs → inc ≡ get_or incs i 0 → incs ≡ map (λ r. r.inc) (subtree rows top) → ((r : Row) → row_of rows inc ≡ Some r → found ≡ h r) → seen ≡ filter_map h (take i (subtree rows top)) → more ≡ seen ++ option_to_list found → more ≡ filter_map h (take (i + 1) (subtree rows top))
told_more rows next top i inc h incs found seen more orderly low at is tells so_far pushed =
    let size : length incs ≡ length (subtree rows top) = ap length is ∙ length-map (subtree rows top) (λ r. r.inc) in
    let within : i < length (subtree rows top) = omega arith in
    let own : inc ≡ (get_or (subtree rows top) i (root_row [])).inc = at ∙ ap (λ l. get_or l i 0) is ∙ get_or-map (λ r. r.inc) (subtree rows top) i (root_row []) 0 within in
    let lives : row_of rows inc ≡ Some (get_or (subtree rows top) i (root_row [])) = ap (row_of rows) own ∙ lives_at (λ r. is_below rows top r.inc) rows next i (root_row []) orderly.increasing within in
    pushed
    ∙ ap (λ l. l ++ option_to_list found) so_far
    ∙ ap (λ l. filter_map h (take i (subtree rows top)) ++ l) (sym (one_told found h (get_or (subtree rows top) i (root_row [])) (sym (tells (get_or (subtree rows top) i (root_row [])) lives))))
    ∙ sym (filter_map-append h (take i (subtree rows top)) (get_or (subtree rows top) i (root_row []) ∷ []))
    ∙ sym (ap (filter_map h) (take_more (subtree rows top) i (root_row []) within))

-- Where all rows were looked at, what was told is that of all of them.
pub told_all : {B : Type 0} (rows : List Row) (top i : ℕ) (h : Row → Option B) (incs : List ℕ) (seen : List B) → length incs ≤ i → incs ≡ map (λ r. r.inc) (subtree rows top) → seen ≡ filter_map h (take i (subtree rows top)) → seen ≡ filter_map h (subtree rows top)
told_all rows top i h incs seen long is so_far =
    let size : length incs ≡ length (subtree rows top) = ap length is ∙ length-map (subtree rows top) (λ r. r.inc) in
    so_far ∙ ap (filter_map h) (take_all i (subtree rows top) (omega arith))
