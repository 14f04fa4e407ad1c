-- Whether some row goes with one that stops.
use Rattle.std.proofs.Common.{◌≡◌, ℕ, List, [], ◌∷◌, map, Bool, true, false, cond, not, ◌&&◌, ◌||◌, ◌==◌, true≢false, Option, Some, None, refl, sym, ◌∙◌, ap}
use Rattle.std.specs.List.{list_any}
use Rattle.std.specs.Option.{option_map_or}
use Rattle.cm_world.specs.declared.row.Row.{Row}
use Rattle.cm_world.specs.Rows.{row_of, has_parent, is_closed}
use Rattle.cm_world.specs.End.{changed, set_doomed}
use Rattle.cm_world.specs.Marks.{is_dynamic}
use Rattle.cm_world.specs.Expiring.{runs_once, goes_with, expired}
use Rattle.cm_world.specs.Sound.{IsOrderly}
use Rattle.cm_world.proofs.lemmas.trees.Finding.{none_some, some_same, row_of-inc}
use Rattle.std.specs.Cmp.{unsigned_Decides, second_so}
use Rattle.cm_facts.proofs.Lists.{map_agree}
use Rattle.cm_cache.specs.Beside.{goes_some}
use Rattle.cm_walk.proofs.lemmas.descents.Behind.{next_of, IsNext, is_next}
use Rattle.cm_steps.specs.Expiring.{doomed_if_dynamic}
use Rattle.cm_steps.proofs.lemmas.expiries.Dooming.{may_go, doomed_up_to, undoomed_there, expired_closed, expired_once, open_goes, up_more, up_all}

-- ---- lists

-- Where the row found passes, some row does, row by row.
any_by : (b : Bool) (p : Row → Bool) (x r : Row) (xs : List Row) (o : Option Row) → p r ≡ true → (o ≡ Some r → list_any p xs ≡ true) → cond b (Some x) o ≡ Some r → (p x || list_any p xs) ≡ true
any_by true p x r xs o is later e = ap (λ y. p y || list_any p xs) (some_same x r e) ∙ ap (λ t. t || list_any p xs) is
any_by false p x r xs o is later e = or_true (p x) (list_any p xs) (later e) where
  or_true : (a b : Bool) → b ≡ true → (a || b) ≡ true
  or_true true b is = refl
  or_true false b is = is

-- a row that is found and passes a test is one of those that do
any_found : (p : Row → Bool) (rows : List Row) (i : ℕ) (r : Row) → row_of rows i ≡ Some r → p r ≡ true → list_any p rows ≡ true
any_found p [] i r e is = absurd (none_some r e)
any_found p (x ∷ xs) i r e is = any_by (x.inc == i) p x r xs (row_of xs i) is (λ later. any_found p xs i r later is) e

-- where two tests agree, so do their lists
any_as : (p q : Row → Bool) → ((r : Row) → p r ≡ q r) → (xs : List Row) → list_any p xs ≡ list_any q xs
any_as p q same [] = refl
any_as p q same (x ∷ xs) = ap (λ t. t || list_any p xs) (same x) ∙ ap (λ t. q x || t) (any_as p q same xs)

-- The first of some rows, or the given one where there is none.
head_of : List Row → Row → Row
head_of [] d = d
head_of (x ∷ xs) d = x

-- The rows behind the first.
tail_of : List Row → List Row
tail_of [] = []
tail_of (x ∷ xs) = xs

-- A row that is as before after it may have been doomed didn't go.
fixed_by : (t d : Bool) (x : Row) → x.doomed ≡ d → cond (t && not d) (set_doomed x) x ≡ x → (t && not d) ≡ false
fixed_by true true x is same = refl
fixed_by true false x is same = ap (λ y. y.doomed) same ∙ is
fixed_by false d x is same = refl

-- where no row changes that would be doomed, none is
none_fixed : (p : Row → Bool) (xs : List Row) → map (λ r. cond (p r && not r.doomed) (set_doomed r) r) xs ≡ xs → list_any (λ r. p r && not r.doomed) xs ≡ false
unfolding head_of tail_of
none_fixed p [] e = refl
none_fixed p (x ∷ xs) e =
    ap (λ t. t || list_any (λ r. p r && not r.doomed) xs) (fixed_by (p x) x.doomed x refl (ap (λ ys. head_of ys x) e))
    ∙ none_fixed p xs (ap tail_of e)

-- Where no row goes, the rows are as before, row by row.
stays_by : (t any : Bool) (x : Row) (xs ys : List Row) → (t || any) ≡ false → (any ≡ false → ys ≡ xs) → cond t (set_doomed x) x ∷ ys ≡ x ∷ xs
stays_by true any x xs ys none later = absurd (true≢false none)
stays_by false any x xs ys none later = ap (λ zs. x ∷ zs) (later none)

-- where none would be doomed that isn't yet, no row changes
pub fixed_none : (p : Row → Bool) (xs : List Row) → list_any (λ r. p r && not r.doomed) xs ≡ false → map (λ r. cond (p r && not r.doomed) (set_doomed r) r) xs ≡ xs
fixed_none p [] none = refl
fixed_none p (x ∷ xs) none =
    stays_by (p x && not x.doomed) (list_any (λ r. p r && not r.doomed) xs) x xs (map (λ r. cond (p r && not r.doomed) (set_doomed r) r) xs) none (fixed_none p xs)

-- ---- children

-- To doom a row that is a child and in a collection is to doom it as such, if it is a child.
going_below : (b d m : Bool) (r : Row) → cond ((b && d) && not m) (set_doomed r) r ≡ cond b (cond (d && not m) (set_doomed r) r) r
going_below true d m r = refl
going_below false d m r = refl

-- the child that was looked at stays as it is: all up to it do
pub still_more : (p : ℕ) (after : Option ℕ) (rows : List Row) (next j : ℕ) → IsOrderly rows next → next_of (has_parent p) after rows ≡ Some j → doomed_up_to p after rows ≡ rows → may_go rows j ≡ false → doomed_up_to p (Some j) rows ≡ rows
still_more p after rows next j orderly found still stays =
    sym (up_more p after rows next j orderly found) ∙ ap (changed j doomed_if_dynamic) still ∙ sym (undoomed_there rows j stays)

-- where there is no next child, none goes
pub none_left : (p : ℕ) (after : Option ℕ) (rows : List Row) → next_of (has_parent p) after rows ≡ None → doomed_up_to p after rows ≡ rows → false ≡ list_any (λ r. has_parent p r && is_dynamic r && not r.doomed) rows
none_left p after rows none still =
    sym (none_fixed (λ r. has_parent p r && is_dynamic r) rows
    (map_agree (λ r. cond ((has_parent p r && is_dynamic r) && not r.doomed) (set_doomed r) r) (λ r. cond (has_parent p r) (doomed_if_dynamic r) r) (λ r. going_below (has_parent p r) (is_dynamic r) r.doomed r) rows
    ∙ sym (up_all p after rows none) ∙ still))

-- Where a child in a collection is found that isn't doomed, some row is such a one.
found_by : (p : ℕ) (o : Option Row) (rows : List Row) (j : ℕ) → row_of rows j ≡ o → option_map_or (λ r. is_dynamic r && not r.doomed) o false ≡ true → option_map_or (has_parent p) o false ≡ true → list_any (λ r. has_parent p r && is_dynamic r && not r.doomed) rows ≡ true
found_by p None rows j is goes child = absurd (true≢false (sym goes))
found_by p (Some r) rows j is goes child =
    any_found (λ s. has_parent p s && is_dynamic s && not s.doomed) rows j r is
    (ap (λ t. t && is_dynamic r && not r.doomed) child ∙ goes)

-- a child that goes is one of them
pub child_found : (p : ℕ) (after : Option ℕ) (rows : List Row) (next j : ℕ) → IsOrderly rows next → next_of (has_parent p) after rows ≡ Some j → may_go rows j ≡ true → true ≡ list_any (λ r. has_parent p r && is_dynamic r && not r.doomed) rows
child_found p after rows next j orderly found goes =
    let n : IsNext (has_parent p) after rows j = is_next (has_parent p) after rows next j orderly found in
    sym (found_by p (row_of rows j) rows j refl goes (ap (λ o. option_map_or (has_parent p) o false) n.lives ∙ n.passes))

-- ---- by cases

-- nothing goes where the row is being shut down
pub closed_none : (rows : List Row) (i : ℕ) → is_closed rows i ≡ true → false ≡ goes_some rows i
closed_none rows i closed = sym (none_all rows) where
  none_all : (xs : List Row) → list_any (λ r. goes_with rows i r && not r.doomed) xs ≡ false
  none_all [] = refl
  none_all (x ∷ xs) =
      ap (λ b. (cond b false (cond (runs_once rows i) (x.inc == i) (has_parent i x && is_dynamic x)) && not x.doomed) || list_any (λ r. goes_with rows i r && not r.doomed) xs) closed
      ∙ none_all xs

-- Where an open row doesn't run once, something goes with it exactly where a child of it does.
pub children_go : (rows : List Row) (i : ℕ) → is_closed rows i ≡ false → runs_once rows i ≡ false → list_any (λ r. has_parent i r && is_dynamic r && not r.doomed) rows ≡ goes_some rows i
children_go rows i unclosed once =
    any_as (λ r. has_parent i r && is_dynamic r && not r.doomed) (λ r. goes_with rows i r && not r.doomed)
    (λ r. sym (ap (λ b. b && not r.doomed) (open_goes rows i false unclosed once r))) rows

-- Where an open row runs once and may go, it goes itself.
itself_by : (o : Option Row) (rows : List Row) (i : ℕ) → row_of rows i ≡ o → is_closed rows i ≡ false → runs_once rows i ≡ true → option_map_or (λ r. is_dynamic r && not r.doomed) o false ≡ true → true ≡ goes_some rows i
itself_by None rows i is unclosed once goes = absurd (true≢false (sym goes))
itself_by (Some r) rows i is unclosed once goes =
    let own : goes_with rows i r ≡ true = open_goes rows i true unclosed once r ∙ (unsigned_Decides r.inc i).1 (row_of-inc rows i r is) in
    sym (any_found (λ s. goes_with rows i s && not s.doomed) rows i r is
    (ap (λ t. t && not r.doomed) own ∙ second_so (is_dynamic r) (not r.doomed) goes))

-- Where an open row runs once, some row goes with it exactly where it may go itself.
once_by : (t : Bool) (rows : List Row) (next i : ℕ) → may_go rows i ≡ t → IsOrderly rows next → is_closed rows i ≡ false → runs_once rows i ≡ true → t ≡ goes_some rows i
once_by true rows next i may orderly unclosed once = itself_by (row_of rows i) rows i refl unclosed once may
once_by false rows next i may orderly unclosed once =
    sym (none_fixed (goes_with rows i) rows (expired_once rows next i orderly unclosed once ∙ sym (undoomed_there rows i may)))

-- Where a row runs once and isn't closed, some row goes with it exactly where it may go itself.
pub once_goes : (rows : List Row) (next i : ℕ) → IsOrderly rows next → is_closed rows i ≡ false → runs_once rows i ≡ true → may_go rows i ≡ goes_some rows i
once_goes rows next i orderly unclosed once = once_by (may_go rows i) rows next i refl orderly unclosed once

-- ---- where none goes

-- Where no row goes with one that stops, the rows stay as they are.
pub none_expired : (rows : List Row) (i : ℕ) → goes_some rows i ≡ false → expired i rows ≡ rows
none_expired rows i none = fixed_none (goes_with rows i) rows none

-- a row that stops while it is being shut down
pub none_stopped : (t : Bool) (rows : List Row) (i : ℕ) → (t ≡ true → is_closed rows i ≡ true) → false ≡ (t && goes_some rows i)
none_stopped true rows i closes = closed_none rows i (closes refl)
none_stopped false rows i closes = refl

-- Where a row has stopped, and is closed, the rows stay as they are.
pub same_stopped : (t : Bool) (rows : List Row) (i : ℕ) → (t ≡ true → is_closed rows i ≡ true) → cond t (expired i rows) rows ≡ rows
same_stopped true rows i closes = expired_closed rows i (closes refl)
same_stopped false rows i closes = refl
