-- The rows that stand behind one, and what is taken from row after row.
use Rattle.std.proofs.Common.{◌≡◌, ℕ, suc, ◌<◌, List, [], ◌∷◌, ◌++◌, Bool, true, false, cond, ◌&&◌, ◌==◌, Option, Some, None, IsSome, is_some, find, filter, map, length, option_map, option_to_list, refl, sym, ◌∙◌, ap, subst, arith, append_assoc, append-nil}
use Rattle.std.specs.List.{cons_option, filter_map}
use Rattle.std.specs.Cmp.{unsigned_Decides, first_so, second_so}
use Rattle.std.proofs.lemmas.Bool.{lt-ltb, le-ltb, ltb-true}
use Rattle.cm_facts.proofs.Options.{option_map_none, cons_option_append}
use Rattle.cm_world.specs.declared.row.Row.{Row}
use Rattle.cm_world.specs.Rows.{row_of}
use Rattle.cm_world.specs.RowsInside.{is_behind}
use Rattle.cm_world.specs.Sound.{IncarnationsIncrease, IsOrderly}
use Rattle.cm_world.proofs.lemmas.trees.Finding.{none_some, some_same, find-passes}
use Rattle.cm_world.proofs.lemmas.trees.Walks.{find-lives}

-- the rows whose incarnations are above one, or all rows
abbrev pub behind : Option ℕ → List Row → List Row
behind after rows = filter (λ r. is_behind after r.inc) rows

-- A row that lives among rows lives with one row more before them too.
pub lives_on : (x : Row) (xs : List Row) (s : ℕ) → IsSome (row_of xs s) → IsSome (row_of (x ∷ xs) s)
lives_on x xs s h = on_by (x.inc == s) where
  on_by : (t : Bool) → IsSome (cond t (Some x) (row_of xs s))
  on_by true = refl
  on_by false = h

-- where all incarnations are above it, all rows stand behind it
all_behind : (after : Option ℕ) (xs : List Row) → ((s : ℕ) → IsSome (row_of xs s) → is_behind after s ≡ true) → behind after xs ≡ xs
all_behind after [] above = refl
all_behind after (x ∷ xs) above =
    let own : IsSome (row_of (x ∷ xs) x.inc) = rw ((unsigned_Decides x.inc x.inc).1 refl) refl in
    rw (above x.inc own) (ap (λ l. x ∷ l) (all_behind after xs (λ s h. above s (lives_on x xs s h))))

-- What stands above a row that stands behind one stands behind that one too.
pub behind_more : (after : Option ℕ) (i s : ℕ) → is_behind after i ≡ true → i < s → is_behind after s ≡ true
behind_more None i s h up = refl
behind_more (Some j) i s h up = let low : j < i = ltb-true j i h in lt-ltb j s (omega arith)

-- ---- the next row that passes

-- a row that isn't taken may stand before the others or not
skipped : {B : Type 0} (b : Bool) (g : Row → Option B) (x : Row) (ys : List Row) → g x ≡ None → filter_map g (cond b (x ∷ ys) ys) ≡ filter_map g ys
skipped true g x ys none = ap (λ o. cons_option o (filter_map g ys)) none
skipped false g x ys none = refl

-- A row before the one that is found changes nothing in what is taken behind a place.
not_yet : {B : Type 0} (b : Bool) (q : Row → Bool) (g : Row → Option B) (after : Option ℕ) (x : Row) (xs : List Row) (next : ℕ) (r : Row) → IncarnationsIncrease next (x ∷ xs) → filter_map g (cond b (x ∷ behind after xs) (behind after xs)) ≡ filter_map g (behind after xs) → (find q xs ≡ Some r → filter_map g (behind after xs) ≡ option_to_list (g r) ++ filter_map g (behind (Some r.inc) xs)) → find q xs ≡ Some r → filter_map g (cond b (x ∷ behind after xs) (behind after xs)) ≡ option_to_list (g r) ++ filter_map g (behind (Some r.inc) (x ∷ xs))
not_yet b q g after x xs next r increasing skip later e =
    let lives : row_of xs r.inc ≡ Some r = find-lives q xs next r increasing.1 e in
    let low : x.inc < r.inc = increasing.0.1 r.inc (ap is_some lives) in
    skip ∙ later e ∙ sym (ap (λ t. option_to_list (g r) ++ filter_map g (cond t (x ∷ behind (Some r.inc) xs) (behind (Some r.inc) xs))) (le-ltb r.inc x.inc (omega arith)))

-- Where the first row stands behind a place, what is taken is of that row, then behind it.
here_is : {B : Type 0} (g : Row → Option B) (after : Option ℕ) (x : Row) (xs : List Row) (next : ℕ) → IncarnationsIncrease next (x ∷ xs) → is_behind after x.inc ≡ true → filter_map g (x ∷ behind after xs) ≡ option_to_list (g x) ++ filter_map g (behind (Some x.inc) (x ∷ xs))
here_is g after x xs next increasing at =
    cons_option_append (g x) (filter_map g (behind after xs))
    ∙ ap (λ l. option_to_list (g x) ++ filter_map g l) (all_behind after xs (λ s h. behind_more after x.inc s at (increasing.0.1 s h)))
    ∙ sym (ap (λ l. option_to_list (g x) ++ filter_map g l) (
    ap (λ t. cond t (x ∷ behind (Some x.inc) xs) (behind (Some x.inc) xs)) (le-ltb x.inc x.inc (omega arith))
    ∙ all_behind (Some x.inc) xs (λ s h. lt-ltb x.inc s (increasing.0.1 s h))))

-- What is taken behind a place is of the row found, then what is taken behind it, row by row.
split_at : {B : Type 0} (a b : Bool) (p q : Row → Bool) (g : Row → Option B) (after : Option ℕ) (x : Row) (xs : List Row) (next : ℕ) (r : Row) → p x ≡ a → is_behind after x.inc ≡ b → IncarnationsIncrease next (x ∷ xs) → ((y : Row) → p y ≡ false → g y ≡ None) → (find q xs ≡ Some r → filter_map g (behind after xs) ≡ option_to_list (g r) ++ filter_map g (behind (Some r.inc) xs)) → cond (a && b) (Some x) (find q xs) ≡ Some r → filter_map g (cond b (x ∷ behind after xs) (behind after xs)) ≡ option_to_list (g r) ++ filter_map g (behind (Some r.inc) (x ∷ xs))
split_at true true p q g after x xs next r pass at increasing none later e =
    subst (λ y. filter_map g (x ∷ behind after xs) ≡ option_to_list (g y) ++ filter_map g (behind (Some y.inc) (x ∷ xs))) (some_same x r e) (here_is g after x xs next increasing at)
split_at true false p q g after x xs next r pass at increasing none later e = not_yet false q g after x xs next r increasing refl later e
split_at false b p q g after x xs next r pass at increasing none later e = not_yet b q g after x xs next r increasing (skipped b g x (behind after xs) (none x pass)) later e

-- what is taken of the rows behind one: of the next that passes, and of the rows behind that
next_splits : {B : Type 0} (p : Row → Bool) (g : Row → Option B) (after : Option ℕ) (rows : List Row) (next : ℕ) (r : Row) → IncarnationsIncrease next rows → ((y : Row) → p y ≡ false → g y ≡ None) → find (λ y. p y && is_behind after y.inc) rows ≡ Some r → filter_map g (behind after rows) ≡ option_to_list (g r) ++ filter_map g (behind (Some r.inc) rows)
next_splits p g after [] next r increasing none e = absurd (none_some r e)
next_splits p g after (x ∷ xs) next r increasing none e =
    split_at (p x) (is_behind after x.inc) p (λ y. p y && is_behind after y.inc) g after x xs next r refl refl increasing none (next_splits p g after xs next r increasing.1 none) e

-- Where no row that passes is behind a place, nothing is taken there, row by row.
none_at : {B : Type 0} (a b : Bool) (p : Row → Bool) (g : Row → Option B) (x : Row) (ys : List Row) (o : Option Row) → p x ≡ a → ((y : Row) → p y ≡ false → g y ≡ None) → (o ≡ None → filter_map g ys ≡ []) → cond (a && b) (Some x) o ≡ None → filter_map g (cond b (x ∷ ys) ys) ≡ []
none_at true true p g x ys o pass none later e = absurd (none_some x (sym e))
none_at true false p g x ys o pass none later e = later e
none_at false b p g x ys o pass none later e = skipped b g x ys (none x pass) ∙ later e

-- nothing, where no row behind it passes
none_left : {B : Type 0} (p : Row → Bool) (g : Row → Option B) (after : Option ℕ) (rows : List Row) → ((y : Row) → p y ≡ false → g y ≡ None) → find (λ y. p y && is_behind after y.inc) rows ≡ None → filter_map g (behind after rows) ≡ []
none_left p g after [] none e = refl
none_left p g after (x ∷ xs) none e =
    none_at (p x) (is_behind after x.inc) p g x (behind after xs) (find (λ y. p y && is_behind after y.inc) xs) refl none (none_left p g after xs none) e

-- ---- a loop from row to row

-- the first row behind one that passes, by its incarnation
abbrev pub next_of : (Row → Bool) → Option ℕ → List Row → Option ℕ
next_of p after rows = option_map (λ r. r.inc) (find (λ r. p r && is_behind after r.inc) rows)

-- the row of that incarnation
pub record IsNext (p : Row → Bool) (after : Option ℕ) (rows : List Row) (j : ℕ) : Type 0 where
  pub row : Row
  pub found : find (λ r. p r && is_behind after r.inc) rows ≡ Some row
  pub lives : row_of rows j ≡ Some row
  pub inc : row.inc ≡ j
  pub passes : p row ≡ true
  pub later : is_behind after j ≡ true

-- The row that is found to pass behind a place is the next one.
row_by : (p : Row → Bool) (after : Option ℕ) (rows : List Row) (next j : ℕ) (o : Option Row) → IncarnationsIncrease next rows → find (λ r. p r && is_behind after r.inc) rows ≡ o → option_map (λ r. r.inc) o ≡ Some j → IsNext p after rows j
row_by p after rows next j None increasing f e = absurd (none_some j e)
row_by p after rows next j (Some r) increasing f e = record {
  row = r;
  found = f;
  lives = subst (λ i. row_of rows i ≡ Some r) (some_same r.inc j e) (find-lives (λ s. p s && is_behind after s.inc) rows next r increasing f);
  inc = some_same r.inc j e;
  passes = first_so (p r) (is_behind after r.inc) (find-passes (λ s. p s && is_behind after s.inc) rows r f);
  later = subst (λ i. is_behind after i ≡ true) (some_same r.inc j e) (second_so (p r) (is_behind after r.inc) (find-passes (λ s. p s && is_behind after s.inc) rows r f));
}

-- The next row behind one that passes a test lives, passes it, and stands behind that one.
pub is_next : (p : Row → Bool) (after : Option ℕ) (rows : List Row) (next j : ℕ) → IsOrderly rows next → next_of p after rows ≡ Some j → IsNext p after rows j
is_next p after rows next j orderly e = row_by p after rows next j (find (λ r. p r && is_behind after r.inc) rows) orderly.increasing refl e

-- what is seen so far and what is taken of the rows behind are what is taken of all
pub taken_more : {B : Type 0} (p : Row → Bool) (g : Row → Option B) (rows : List Row) (next j : ℕ) (after : Option ℕ) (seen more : List B) (found : Option B) → IsOrderly rows next → ((y : Row) → p y ≡ false → g y ≡ None) → next_of p after rows ≡ Some j → ((r : Row) → row_of rows j ≡ Some r → p r ≡ true → found ≡ g r) → more ≡ seen ++ option_to_list found → seen ++ filter_map g (behind after rows) ≡ filter_map g rows → more ++ filter_map g (behind (Some j) rows) ≡ filter_map g rows
taken_more p g rows next j after seen more found orderly none e is pushed so_far =
    let n : IsNext p after rows j = is_next p after rows next j orderly e in
    ap (λ l. l ++ filter_map g (behind (Some j) rows)) (pushed ∙ ap (λ o. seen ++ option_to_list o) (is n.row n.lives n.passes))
    ∙ append_assoc seen (option_to_list (g n.row)) (filter_map g (behind (Some j) rows))
    ∙ ap (λ i. seen ++ (option_to_list (g n.row) ++ filter_map g (behind (Some i) rows))) (sym n.inc)
    ∙ ap (λ l. seen ++ l) (sym (next_splits p g after rows next n.row orderly.increasing none n.found))
    ∙ so_far

-- Before the first row nothing is taken, and all is left.
pub taken_first : {B : Type 0} (g : Row → Option B) (rows : List Row) → [] ++ filter_map g (behind None rows) ≡ filter_map g rows
taken_first g rows = ap (filter_map g) (all_behind None rows (λ s h. refl))

-- Where no row is left that passes, what was taken is all.
pub taken_all : {B : Type 0} (p : Row → Bool) (g : Row → Option B) (rows : List Row) (after : Option ℕ) (seen : List B) → ((y : Row) → p y ≡ false → g y ≡ None) → next_of p after rows ≡ None → seen ++ filter_map g (behind after rows) ≡ filter_map g rows → seen ≡ filter_map g rows
taken_all p g rows after seen none e so_far =
    sym (ap (λ l. seen ++ l) (none_left p g after rows none (option_map_none (λ (r : Row). r.inc) (find (λ r. p r && is_behind after r.inc) rows) e)) ∙ append-nil seen) ∙ so_far

-- ---- what is made of those that pass

-- What is made of each item that passes is what is made of those that pass, item by item.
made_by : {A B : Type 0} (t : Bool) (p : A → Bool) (f : A → B) (x : A) (xs : List A) → filter_map (λ y. cond (p y) (Some (f y)) None) xs ≡ map f (filter p xs) → cons_option (cond t (Some (f x)) None) (filter_map (λ y. cond (p y) (Some (f y)) None) xs) ≡ map f (cond t (x ∷ filter p xs) (filter p xs))
made_by true p f x xs later = ap (λ l. f x ∷ l) later
made_by false p f x xs later = later

-- what is made of the items that pass a test, one by one
pub made_of : {A B : Type 0} (p : A → Bool) (f : A → B) (xs : List A) → filter_map (λ y. cond (p y) (Some (f y)) None) xs ≡ map f (filter p xs)
made_of p f [] = refl
made_of p f (x ∷ xs) = made_by (p x) p f x xs (made_of p f xs)

-- ---- how many are left

-- The row, if it passes the test.
abbrev if_passes : (Row → Bool) → Row → Option Row
if_passes p r = cond (p r) (Some r) None

-- how many rows behind one pass
pub left : (Row → Bool) → Option ℕ → List Row → ℕ
left p after rows = length (filter_map (if_passes p) (behind after rows))

-- Behind the next row that passes a test fewer that do are left than behind the one before it.
pub left_falls : (p : Row → Bool) (rows : List Row) (next j : ℕ) (after : Option ℕ) → IsOrderly rows next → next_of p after rows ≡ Some j → left p (Some j) rows < left p after rows
unfolding left
left_falls p rows next j after orderly e =
    let n : IsNext p after rows j = is_next p after rows next j orderly e in
    let one : if_passes p n.row ≡ Some n.row = ap (λ b. cond b (Some n.row) None) n.passes in
    let split : filter_map (if_passes p) (behind after rows) ≡ n.row ∷ filter_map (if_passes p) (behind (Some j) rows) =
    next_splits p (if_passes p) after rows next n.row orderly.increasing (λ y none. ap (λ b. cond b (Some y) None) none) n.found
    ∙ ap (λ o. option_to_list o ++ filter_map (if_passes p) (behind (Some n.row.inc) rows)) one
    ∙ ap (λ i. n.row ∷ filter_map (if_passes p) (behind (Some i) rows)) n.inc in
    let more : length (filter_map (if_passes p) (behind after rows)) ≡ suc (length (filter_map (if_passes p) (behind (Some j) rows))) = ap length split in
    omega arith
