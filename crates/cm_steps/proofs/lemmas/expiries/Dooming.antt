-- Rows that go with one that stops, one after another.
use Rattle.std.proofs.Common.{◌≡◌, ℕ, ◌<◌, List, [], ◌∷◌, map, Bool, true, false, cond, not, ◌&&◌, ◌==◌, true≢false}
use Rattle.std.proofs.Common.{Option, Some, None, IsSome, is_some, find, filter, option_map, nat_eq, refl, sym, ◌∙◌}
use Rattle.std.proofs.Common.{ap, subst, arith}
use Rattle.std.specs.List.{cons_option, filter_map}
use Rattle.std.specs.Option.{option_eq, option_map_or}
use Rattle.std.specs.Cmp.{unsigned_Decides}
use Rattle.std.proofs.lemmas.Bool.{lt-ltb, le-ltb}
use Rattle.cm_facts.proofs.Options.{option_map_none}
use Rattle.cm_facts.proofs.Lists.{map_agree}
use Rattle.cm_world.specs.declared.row.Row.{Row}
use Rattle.cm_world.specs.Rows.{row_of, has_parent, is_closed}
use Rattle.cm_world.specs.RowsInside.{is_behind}
use Rattle.cm_world.specs.End.{changed, set_doomed}
use Rattle.cm_world.specs.Marks.{is_dynamic}
use Rattle.cm_world.specs.Sound.{IncarnationsIncrease, IsOrderly}
use Rattle.cm_world.specs.Expiring.{runs_once, goes_with, expired, doomed_children}
use Rattle.cm_world.proofs.lemmas.trees.Finding.{none_some, some_same}
use Rattle.cm_world.proofs.lemmas.trees.Walks.{find-lives}
use Rattle.cm_laws.proofs.lemmas.sound.Expiries.{once_row}
use Rattle.cm_steps.specs.Expiring.{doomed_if_dynamic, doomed_below}
use Rattle.cm_walk.proofs.lemmas.descents.Behind.{next_of, IsNext, is_next, lives_on, behind_more}
use Rattle.cm_trees.proofs.rows.Dooming.{doom_inc}

-- ---- what a loop over children has done so far

-- each child of a row that is in a collection becomes doomed, but those behind one
abbrev pub doomed_up_to : ℕ → Option ℕ → List Row → List Row
doomed_up_to p after rows =
    map (λ r. cond (has_parent p r && not (is_behind after r.inc)) (doomed_if_dynamic r) r) rows

-- the incarnation of a row that is a doomed child of another
abbrev pub doomed_child : ℕ → Row → Option ℕ
doomed_child p r = cond (has_parent p r && r.doomed) (Some r.inc) None

-- ---- lists whose items are each changed

-- A change that leaves each row leaves all of them.
each_same : (f : Row → Row) → ((r : Row) → f r ≡ r) → (xs : List Row) → map f xs ≡ xs
each_same f same [] = refl
each_same f same (x ∷ xs) = ap (λ y. y ∷ map f xs) (same x) ∙ ap (λ ys. x ∷ ys) (each_same f same xs)

-- a change that the row of that incarnation doesn't tell apart from another
changed_by : (t : Bool) (f g : Row → Row) (i : ℕ) (x : Row) (xs : List Row) → ((r : Row) → cond t (Some x) (row_of xs i) ≡ Some r → f r ≡ g r) → (((r : Row) → row_of xs i ≡ Some r → f r ≡ g r) → changed i f xs ≡ changed i g xs) → cond t (f x ∷ xs) (x ∷ changed i f xs) ≡ cond t (g x ∷ xs) (x ∷ changed i g xs)
changed_by true f g i x xs same later = ap (λ y. y ∷ xs) (same x refl)
changed_by false f g i x xs same later = ap (λ ys. x ∷ ys) (later same)

-- Two changes that are the same for the row found leave the same rows.
changed_as : (f g : Row → Row) (i : ℕ) (xs : List Row) → ((r : Row) → row_of xs i ≡ Some r → f r ≡ g r) → changed i f xs ≡ changed i g xs
changed_as f g i [] same = refl
changed_as f g i (x ∷ xs) same = changed_by (x.inc == i) f g i x xs same (changed_as f g i xs)

-- A change of a row that leaves it leaves all of them, row by row.
unchanged_by : (t : Bool) (i : ℕ) (x : Row) (xs : List Row) → changed i (λ r. r) xs ≡ xs → cond t (x ∷ xs) (x ∷ changed i (λ r. r) xs) ≡ x ∷ xs
unchanged_by true i x xs later = refl
unchanged_by false i x xs later = ap (λ ys. x ∷ ys) later

-- A change of a row that leaves it leaves all of them.
unchanged : (i : ℕ) (xs : List Row) → changed i (λ r. r) xs ≡ xs
unchanged i [] = refl
unchanged i (x ∷ xs) = unchanged_by (x.inc == i) i x xs (unchanged i xs)

-- ---- one row

-- whether a row may go
abbrev pub may_go : List Row → ℕ → Bool
may_go rows i = option_map_or (λ r. is_dynamic r && not r.doomed) (row_of rows i) false

-- A row that goes is doomed.
goes_if : (t : Bool) (r : Row) → t ≡ true → set_doomed r ≡ cond t (set_doomed r) r
goes_if true r e = refl
goes_if false r e = absurd (true≢false (sym e))

-- A row that doesn't go is as it was.
stays_if : (t : Bool) (r : Row) → t ≡ false → r ≡ cond t (set_doomed r) r
stays_if true r e = absurd (true≢false e)
stays_if false r e = refl

-- where it may, it is doomed by that
pub doomed_there : (rows : List Row) (i : ℕ) → may_go rows i ≡ true → changed i set_doomed rows ≡ changed i doomed_if_dynamic rows
doomed_there rows i may =
    changed_as set_doomed doomed_if_dynamic i rows
    (λ r lives. goes_if (is_dynamic r && not r.doomed) r (sym (ap (λ o. option_map_or (λ s. is_dynamic s && not s.doomed) o false) lives) ∙ may))

-- Where a row may not go, it isn't marked, and all rows stay as they are.
pub undoomed_there : (rows : List Row) (i : ℕ) → may_go rows i ≡ false → rows ≡ changed i doomed_if_dynamic rows
undoomed_there rows i may =
    sym (unchanged i rows)
    ∙ changed_as (λ r. r) doomed_if_dynamic i rows
    (λ r lives. stays_if (is_dynamic r && not r.doomed) r (sym (ap (λ o. option_map_or (λ s. is_dynamic s && not s.doomed) o false) lives) ∙ may))

-- ---- what expires, by cases

-- nothing does where the row is being shut down
pub expired_closed : (rows : List Row) (i : ℕ) → is_closed rows i ≡ true → expired i rows ≡ rows
expired_closed rows i closed =
    each_same (λ r. cond (goes_with rows i r && not r.doomed) (set_doomed r) r)
    (λ r. ap (λ b. cond (cond b false (cond (runs_once rows i) (r.inc == i) (has_parent i r && is_dynamic r)) && not r.doomed) (set_doomed r) r) closed) rows

-- With a row that isn't closed goes the row itself, if it runs once, else its children in collections.
pub open_goes : (rows : List Row) (i : ℕ) (once : Bool) → is_closed rows i ≡ false → runs_once rows i ≡ once → (r : Row) → goes_with rows i r ≡ cond once (r.inc == i) (has_parent i r && is_dynamic r)
open_goes rows i once unclosed is r =
    ap (λ b. cond b false (cond (runs_once rows i) (r.inc == i) (has_parent i r && is_dynamic r))) unclosed
    ∙ ap (λ b. cond b (r.inc == i) (has_parent i r && is_dynamic r)) is

-- Where a test holds, what is marked by it is what is marked where it is true.
own_first : (d m : Bool) (r : Row) → d ≡ true → cond (true && not m) (set_doomed r) r ≡ cond (d && not m) (set_doomed r) r
own_first true m r e = refl
own_first false m r e = absurd (true≢false (sym e))

-- Where all rows are above an incarnation, dooming that one leaves them.
none_else : (i : ℕ) (xs : List Row) → ((s : ℕ) → IsSome (row_of xs s) → i < s) → map (λ r. cond ((r.inc == i) && not r.doomed) (set_doomed r) r) xs ≡ xs
none_else i [] high = refl
none_else i (x ∷ xs) high = skip_by (x.inc == i) refl (none_else i xs (λ s h. high s (lives_on x xs s h))) where
  skip_by : (t : Bool) → (x.inc == i) ≡ t → map (λ r. cond ((r.inc == i) && not r.doomed) (set_doomed r) r) xs ≡ xs → cond (t && not x.doomed) (set_doomed x) x ∷ map (λ r. cond ((r.inc == i) && not r.doomed) (set_doomed r) r) xs ≡ x ∷ xs
  skip_by true same later =
      let here : IsSome (row_of (x ∷ xs) x.inc) = rw ((unsigned_Decides x.inc x.inc).1 refl) refl in
      let above : i < x.inc = high x.inc here in
      let is : x.inc ≡ i = (unsigned_Decides x.inc i).0 same in
      absurd (omega arith)
  skip_by false same later = ap (λ ys. x ∷ ys) later

-- To doom the row of an incarnation in a collection is to change that one, row by row.
own_by : (t : Bool) (i next : ℕ) (x : Row) (xs : List Row) → (x.inc == i) ≡ t → IncarnationsIncrease next (x ∷ xs) → ((r : Row) → cond t (Some x) (row_of xs i) ≡ Some r → is_dynamic r ≡ true) → (((r : Row) → row_of xs i ≡ Some r → is_dynamic r ≡ true) → map (λ r. cond ((r.inc == i) && not r.doomed) (set_doomed r) r) xs ≡ changed i doomed_if_dynamic xs) → cond (t && not x.doomed) (set_doomed x) x ∷ map (λ r. cond ((r.inc == i) && not r.doomed) (set_doomed r) r) xs ≡ cond t (doomed_if_dynamic x ∷ xs) (x ∷ changed i doomed_if_dynamic xs)
own_by true i next x xs same increasing dynamic later =
    let is : x.inc ≡ i = (unsigned_Decides x.inc i).0 same in
    ap (λ ys. cond (true && not x.doomed) (set_doomed x) x ∷ ys) (none_else i xs (λ s h. subst (λ n. n < s) is (increasing.0.1 s h)))
    ∙ ap (λ y. y ∷ xs) (own_first (is_dynamic x) x.doomed x (dynamic x refl))
own_by false i next x xs same increasing dynamic later = ap (λ ys. x ∷ ys) (later dynamic)

-- To doom the row of an incarnation in a collection is to change that one.
own_goes : (i next : ℕ) (xs : List Row) → IncarnationsIncrease next xs → ((r : Row) → row_of xs i ≡ Some r → is_dynamic r ≡ true) → map (λ r. cond ((r.inc == i) && not r.doomed) (set_doomed r) r) xs ≡ changed i doomed_if_dynamic xs
own_goes i next [] increasing dynamic = refl
own_goes i next (x ∷ xs) increasing dynamic =
    own_by (x.inc == i) i next x xs refl increasing dynamic (own_goes i next xs increasing.1)

-- A row that runs once, stops, and isn't closed is the only one that goes, if it is in a collection.
pub expired_once : (rows : List Row) (next i : ℕ) → IsOrderly rows next → is_closed rows i ≡ false → runs_once rows i ≡ true → expired i rows ≡ changed i doomed_if_dynamic rows
expired_once rows next i orderly unclosed once =
    map_agree (λ r. cond (goes_with rows i r && not r.doomed) (set_doomed r) r) (λ r. cond ((r.inc == i) && not r.doomed) (set_doomed r) r)
    (λ r. ap (λ b. cond (b && not r.doomed) (set_doomed r) r) (open_goes rows i true unclosed once r)) rows
    ∙ own_goes i next rows orderly.increasing (λ r lives. once_row rows i r lives once)

-- ---- children, one after another

module _ (p : ℕ) where
  -- A row, doomed if it is a child in a collection that isn't behind the place.
  abbrev up : Option ℕ → Row → Row
  up after r = cond (has_parent p r && not (is_behind after r.inc)) (doomed_if_dynamic r) r

  -- Where the last of two conditions fails, a row isn't doomed.
  off : (b : Bool) (r : Row) → cond (b && false) (doomed_if_dynamic r) r ≡ r
  off true r = refl
  off false r = refl

  -- none yet
  pub up_first : (rows : List Row) → doomed_up_to p None rows ≡ rows
  up_first rows = each_same (up None) (λ r. off (has_parent p r) r) rows

  -- Where all rows are behind the place, none becomes doomed up to it.
  none_up : (after : Option ℕ) (xs : List Row) → ((s : ℕ) → IsSome (row_of xs s) → is_behind after s ≡ true) → doomed_up_to p after xs ≡ xs
  none_up after [] above = refl
  none_up after (x ∷ xs) above =
      let own : IsSome (row_of (x ∷ xs) x.inc) = rw ((unsigned_Decides x.inc x.inc).1 refl) refl in
      ap (λ b. cond (has_parent p x && not b) (doomed_if_dynamic x) x ∷ doomed_up_to p after xs) (above x.inc own)
      ∙ ap (λ y. y ∷ doomed_up_to p after xs) (off (has_parent p x) x)
      ∙ ap (λ ys. x ∷ ys) (none_up after xs (λ s h. above s (lives_on x xs s h)))

  -- A row that may become doomed keeps its parent.
  dooms_parent : (t : Bool) (r : Row) → (cond t (set_doomed r) r).parent ≡ r.parent
  dooms_parent true r = refl
  dooms_parent false r = refl

  -- A row that may become doomed in a collection keeps its incarnation.
  up_inc_by : (t : Bool) (r : Row) → (cond t (doomed_if_dynamic r) r).inc ≡ r.inc
  up_inc_by true r = doom_inc (is_dynamic r && not r.doomed) r
  up_inc_by false r = refl

  -- A row that may become doomed in a collection keeps its parent.
  up_parent_by : (t : Bool) (r : Row) → (cond t (doomed_if_dynamic r) r).parent ≡ r.parent
  up_parent_by true r = dooms_parent (is_dynamic r && not r.doomed) r
  up_parent_by false r = refl

  -- A row, doomed up to a place or not, keeps its incarnation.
  up_inc : (after : Option ℕ) (r : Row) → (up after r).inc ≡ r.inc
  up_inc after r = up_inc_by (has_parent p r && not (is_behind after r.inc)) r

  -- a child is found where it was
  same_test : (k after : Option ℕ) (r : Row) → (has_parent p (up k r) && is_behind after (up k r).inc) ≡ (has_parent p r && is_behind after r.inc)
  same_test k after r =
      ap (λ o. option_eq nat_eq o (Some p) && is_behind after (up k r).inc) (up_parent_by (has_parent p r && not (is_behind k r.inc)) r)
      ∙ ap (λ n. has_parent p r && is_behind after n) (up_inc k r)

  -- A search finds the same incarnation among rows doomed up to a place, row by row.
  found_by : (k : Option ℕ) (t u : Bool) (x : Row) (o q : Option Row) → t ≡ u → option_map (λ r. r.inc) o ≡ option_map (λ r. r.inc) q → option_map (λ r. r.inc) (cond t (Some (up k x)) o) ≡ option_map (λ r. r.inc) (cond u (Some x) q)
  found_by k true true x o q same later = ap Some (up_inc k x)
  found_by k true false x o q same later = absurd (true≢false same)
  found_by k false true x o q same later = absurd (true≢false (sym same))
  found_by k false false x o q same later = later

  -- The next child of a row is the same one after its children up to one were doomed.
  pub next_same : (k after : Option ℕ) (rows : List Row) → next_of (has_parent p) after (doomed_up_to p k rows) ≡ next_of (has_parent p) after rows
  next_same k after [] = refl
  next_same k after (x ∷ xs) =
      found_by k (has_parent p (up k x) && is_behind after (up k x).inc) (has_parent p x && is_behind after x.inc) x
      (find (λ r. has_parent p r && is_behind after r.inc) (doomed_up_to p k xs)) (find (λ r. has_parent p r && is_behind after r.inc) xs)
      (same_test k after x) (next_same k after xs)

  -- the next child among the rows so far is the next one among those at first
  pub next_before : (after : Option ℕ) (rows now : List Row) (o : Option ℕ) → now ≡ doomed_up_to p after rows → o ≡ next_of (has_parent p) after now → next_of (has_parent p) after rows ≡ o
  next_before after rows now o is found =
      sym (next_same after after rows) ∙ ap (next_of (has_parent p) after) (sym is) ∙ sym found

  -- one more
  later_row : (t : Bool) (r : Row) (y : Row) (ys zs : List Row) → (y.inc == r.inc) ≡ t → y.inc < r.inc → changed r.inc doomed_if_dynamic ys ≡ zs → cond t (doomed_if_dynamic y ∷ ys) (y ∷ changed r.inc doomed_if_dynamic ys) ≡ y ∷ zs
  later_row true r y ys zs same low e =
      let is : y.inc ≡ r.inc = (unsigned_Decides y.inc r.inc).0 same in absurd (omega arith)
  later_row false r y ys zs same low e = ap (λ l. y ∷ l) e

  -- a row before the next one is as it will be
  before_by : (a b : Bool) (after : Option ℕ) (x r : Row) → has_parent p x ≡ a → is_behind after x.inc ≡ b → x.inc < r.inc → (a ≡ true → b ≡ false) → up after x ≡ up (Some r.inc) x
  before_by true true after x r own at low not_it = absurd (true≢false (not_it refl))
  before_by true false after x r own at low not_it =
      ap (λ t. cond (has_parent p x && not t) (doomed_if_dynamic x) x) (at ∙ sym (le-ltb r.inc x.inc (omega arith)))
  before_by false b after x r own at low not_it =
      ap (λ t. cond (t && not (is_behind after x.inc)) (doomed_if_dynamic x) x) own
      ∙ sym (ap (λ t. cond (t && not (is_behind (Some r.inc) x.inc)) (doomed_if_dynamic x) x) own)

  -- To doom the next child is to doom up to it, where the first row isn't that child.
  step_before : (a b : Bool) (after : Option ℕ) (x : Row) (xs : List Row) (next : ℕ) (r : Row) → has_parent p x ≡ a → is_behind after x.inc ≡ b → (a ≡ true → b ≡ false) → IncarnationsIncrease next (x ∷ xs) → find (λ y. has_parent p y && is_behind after y.inc) xs ≡ Some r → changed r.inc doomed_if_dynamic (doomed_up_to p after xs) ≡ doomed_up_to p (Some r.inc) xs → changed r.inc doomed_if_dynamic (doomed_up_to p after (x ∷ xs)) ≡ doomed_up_to p (Some r.inc) (x ∷ xs)
  step_before a b after x xs next r own at not_it increasing e later =
      let lives : row_of xs r.inc ≡ Some r = find-lives (λ y. has_parent p y && is_behind after y.inc) xs next r increasing.1 e in
      let low : x.inc < r.inc = increasing.0.1 r.inc (ap is_some lives) in
      later_row ((up after x).inc == r.inc) r (up after x) (doomed_up_to p after xs) (doomed_up_to p (Some r.inc) xs) refl (subst (λ n. n < r.inc) (sym (up_inc after x)) low) later
      ∙ ap (λ y. y ∷ doomed_up_to p (Some r.inc) xs) (before_by a b after x r own at low not_it)

  -- the next one is doomed, and all behind it are as they were
  step_here : (after : Option ℕ) (x : Row) (xs : List Row) (next : ℕ) → has_parent p x ≡ true → is_behind after x.inc ≡ true → IncarnationsIncrease next (x ∷ xs) → changed x.inc doomed_if_dynamic (doomed_up_to p after (x ∷ xs)) ≡ doomed_up_to p (Some x.inc) (x ∷ xs)
  step_here after x xs next own at increasing =
      let was : up after x ≡ x = ap (λ t. cond (has_parent p x && not t) (doomed_if_dynamic x) x) at ∙ off (has_parent p x) x in
      let is : up (Some x.inc) x ≡ doomed_if_dynamic x = ap (λ t. cond (t && not (is_behind (Some x.inc) x.inc)) (doomed_if_dynamic x) x) own ∙ ap (λ t. cond (not t) (doomed_if_dynamic x) x) (le-ltb x.inc x.inc (omega arith)) in
      let behind_was : doomed_up_to p after xs ≡ xs = none_up after xs (λ s h. behind_more after x.inc s at (increasing.0.1 s h)) in
      let behind_is : doomed_up_to p (Some x.inc) xs ≡ xs = none_up (Some x.inc) xs (λ s h. lt-ltb x.inc s (increasing.0.1 s h)) in
      ap (λ y. changed x.inc doomed_if_dynamic (y ∷ doomed_up_to p after xs)) was
      ∙ ap (λ ys. changed x.inc doomed_if_dynamic (x ∷ ys)) behind_was
      ∙ ap (λ t. cond t (doomed_if_dynamic x ∷ xs) (x ∷ changed x.inc doomed_if_dynamic xs)) ((unsigned_Decides x.inc x.inc).1 refl)
      ∙ sym (ap (λ y. y ∷ doomed_up_to p (Some x.inc) xs) is ∙ ap (λ ys. doomed_if_dynamic x ∷ ys) behind_is)

  -- To doom the next child is to doom up to it, row by row.
  step_by : (a b : Bool) (after : Option ℕ) (x : Row) (xs : List Row) (next : ℕ) (r : Row) → has_parent p x ≡ a → is_behind after x.inc ≡ b → IncarnationsIncrease next (x ∷ xs) → (find (λ y. has_parent p y && is_behind after y.inc) xs ≡ Some r → changed r.inc doomed_if_dynamic (doomed_up_to p after xs) ≡ doomed_up_to p (Some r.inc) xs) → cond (a && b) (Some x) (find (λ y. has_parent p y && is_behind after y.inc) xs) ≡ Some r → changed r.inc doomed_if_dynamic (doomed_up_to p after (x ∷ xs)) ≡ doomed_up_to p (Some r.inc) (x ∷ xs)
  step_by true true after x xs next r own at increasing later e =
      subst (λ y. changed y.inc doomed_if_dynamic (doomed_up_to p after (x ∷ xs)) ≡ doomed_up_to p (Some y.inc) (x ∷ xs)) (some_same x r e)
      (step_here after x xs next own at increasing)
  step_by true false after x xs next r own at increasing later e =
      step_before true false after x xs next r own at (λ h. refl) increasing e (later e)
  step_by false b after x xs next r own at increasing later e =
      step_before false b after x xs next r own at (λ h. absurd (true≢false (sym h))) increasing e (later e)

  -- To doom the next child behind a place is to doom up to that child.
  up_step : (after : Option ℕ) (rows : List Row) (next : ℕ) (r : Row) → IncarnationsIncrease next rows → find (λ y. has_parent p y && is_behind after y.inc) rows ≡ Some r → changed r.inc doomed_if_dynamic (doomed_up_to p after rows) ≡ doomed_up_to p (Some r.inc) rows
  up_step after [] next r increasing e = absurd (none_some r e)
  up_step after (x ∷ xs) next r increasing e =
      step_by (has_parent p x) (is_behind after x.inc) after x xs next r refl refl increasing (up_step after xs next r increasing.1) e

  -- the next child, by its incarnation
  pub up_more : (after : Option ℕ) (rows : List Row) (next j : ℕ) → IsOrderly rows next → next_of (has_parent p) after rows ≡ Some j → changed j doomed_if_dynamic (doomed_up_to p after rows) ≡ doomed_up_to p (Some j) rows
  up_more after rows next j orderly e =
      let n : IsNext (has_parent p) after rows j = is_next (has_parent p) after rows next j orderly e in
      subst (λ i. changed i doomed_if_dynamic (doomed_up_to p after rows) ≡ doomed_up_to p (Some i) rows) n.inc
      (up_step after rows next n.row orderly.increasing n.found)

  -- all of them, where there is no next one
  all_at : (a b : Bool) (x : Row) (o : Option Row) → cond (a && b) (Some x) o ≡ None → (cond (a && not b) (doomed_if_dynamic x) x ≡ cond a (doomed_if_dynamic x) x) × (o ≡ None)
  all_at true true x o e = absurd (none_some x (sym e))
  all_at true false x o e = (refl, e)
  all_at false b x o e = (refl, e)

  -- Where no child is behind the place, all children in collections are doomed up to it.
  all_up : (after : Option ℕ) (rows : List Row) → find (λ y. has_parent p y && is_behind after y.inc) rows ≡ None → doomed_up_to p after rows ≡ doomed_below p rows
  all_up after [] e = refl
  all_up after (x ∷ xs) e =
      let both = all_at (has_parent p x) (is_behind after x.inc) x (find (λ y. has_parent p y && is_behind after y.inc) xs) e in
      ap (λ y. y ∷ doomed_up_to p after xs) both.0 ∙ ap (λ ys. cond (has_parent p x) (doomed_if_dynamic x) x ∷ ys) (all_up after xs both.1)

  -- Where no child comes behind one, those doomed up to it are all that are to be doomed.
  pub up_all : (after : Option ℕ) (rows : List Row) → next_of (has_parent p) after rows ≡ None → doomed_up_to p after rows ≡ doomed_below p rows
  up_all after rows e = all_up after rows (option_map_none (λ (r : Row). r.inc) (find (λ y. has_parent p y && is_behind after y.inc) rows) e)

-- ---- what a reap names

-- A row that isn't a child of another one isn't a doomed child of it.
pub other_child : (p : ℕ) (y : Row) → has_parent p y ≡ false → doomed_child p y ≡ None
other_child p y other = ap (λ b. cond (b && y.doomed) (Some y.inc) None) other

-- A child of a row is a doomed child of it exactly where it is doomed.
pub own_child : (p : ℕ) (r : Row) → has_parent p r ≡ true → cond r.doomed (Some r.inc) None ≡ doomed_child p r
own_child p r own = sym (ap (λ b. cond (b && r.doomed) (Some r.inc) None) own)

-- Doomed children that are told one by one are all of them, row by row.
children_by : (b : Bool) (p : ℕ) (x : Row) (xs : List Row) → filter_map (doomed_child p) xs ≡ doomed_children xs p → cons_option (cond b (Some x.inc) None) (filter_map (doomed_child p) xs) ≡ map (λ r. r.inc) (cond b (x ∷ filter (λ r. has_parent p r && r.doomed) xs) (filter (λ r. has_parent p r && r.doomed) xs))
children_by true p x xs later = ap (λ l. x.inc ∷ l) later
children_by false p x xs later = later

-- What is taken row by row are the doomed children.
pub all_children : (rows : List Row) (p : ℕ) → filter_map (doomed_child p) rows ≡ doomed_children rows p
all_children [] p = refl
all_children (x ∷ xs) p = children_by (has_parent p x && x.doomed) p x xs (all_children xs p)
