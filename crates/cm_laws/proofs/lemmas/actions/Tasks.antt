-- Which action is pending where, before and behind a change.
use Rattle.std.proofs.Common.{◌≡◌, ℕ, ◌+◌, ◌<◌, ◌≤◌, ◌==◌, List, [], ◌∷◌, ◌++◌, Bool, true, false, cond, true≢false, Option, Some, None, length, find, option_map, refl, sym, ◌∙◌, ap, subst, arith, inl, inr, ◌⊎◌, ne_eqb}
use Rattle.std.specs.Cmp.{unsigned_Decides}
use Rattle.std.specs.Option.{option_or}
use Rattle.std.proofs.lemmas.List.Folds.{find-append}
use Rattle.cm_facts.proofs.Lists.{find_last}
use Rattle.cm_decl.specs.declared.rows.Child.{Child}
use Rattle.cm_world.specs.declared.row.Row.{Row}
use Rattle.cm_world.specs.declared.action.Act.{Act}
use Rattle.cm_world.specs.declared.action.ActKind.{ActKind}
use Rattle.cm_world.specs.declared.action.ActKind.TheVariants.{Resolve}
use Rattle.cm_world.specs.declared.action.Outcome.{Outcome}
use Rattle.cm_world.specs.Edits.{edit_first}
use Rattle.cm_world.specs.Rows.{row_of}
use Rattle.cm_world.specs.After.{new_act}
use Rattle.cm_world.specs.World.{root_row, act_of}
use Rattle.cm_world.specs.End.{changed, set_pending, put_outcome, ended, child_row, child_rows}
use Rattle.cm_world.proofs.lemmas.trees.Finding.{none_some, some_same, find-passes}
use Rattle.cm_laws.specs.Tasks.{IsPendingAt, IsNumbered, HasRow, IsTasked}

-- ---- what is found in a list

-- What holds where two numbers are the same and where they aren't holds.
by_bool : {P : Type 0} (b : Bool) (i j : ℕ) → (i == j) ≡ b → (i ≡ j → P) → ((i ≡ j → ⊥) → P) → P
by_bool true i j e hits differ = hits ((unsigned_Decides i j).0 e)
by_bool false i j e hits differ = differ (λ same. true≢false (sym ((unsigned_Decides i j).1 same) ∙ e))

-- two numbers are equal or not
pub by_test : {P : Type 0} (i j : ℕ) → (i ≡ j → P) → ((i ≡ j → ⊥) → P) → P
by_test i j hits differ = by_bool (i == j) i j refl hits differ

-- What is found in one or else in another is found in one of them.
either_by : {A : Type 0} (o q : Option A) (z : A) → option_or o q ≡ Some z → (o ≡ Some z) ⊎ (q ≡ Some z)
either_by None q z e = inr e
either_by (Some x) q z e = inl e

-- what is found in two lists is found in the one or the other
pub find_split : {A : Type 0} (p : A → Bool) (xs ys : List A) (z : A) → find p (xs ++ ys) ≡ Some z → (find p xs ≡ Some z) ⊎ (find p ys ≡ Some z)
find_split p xs ys z e = either_by (find p xs) (find p ys) z (sym (find-append p xs ys) ∙ e)

-- What is found in a list is found with more items behind it.
pub find_left : {A : Type 0} (p : A → Bool) (xs ys : List A) (z : A) → find p xs ≡ Some z → find p (xs ++ ys) ≡ Some z
find_left p xs ys z e = find-append p xs ys ∙ ap (λ o. option_or o (find p ys)) e

-- What comes of a single item that passes a test is that item.
pub only_by : {A : Type 0} (b : Bool) (y z : A) → cond b (Some y) None ≡ Some z → y ≡ z
only_by true y z e = some_same y z e
only_by false y z e = absurd (none_some z e)

-- ---- what is found behind a change of one item, by numbers that the change keeps

module _ {A : Type 0} (key : A → ℕ) (i : ℕ) (f : A → A) (keeps : (x : A) → key (f x) ≡ key x) where
  -- What is found where an item is edited is the edit of what was found, item by item.
  at_by : (b : Bool) (x : A) (xs : List A) → (key x == i) ≡ b → find (λ z. key z == i) (edit_first (λ z. key z == i) f xs) ≡ option_map f (find (λ z. key z == i) xs) → find (λ z. key z == i) (cond b (f x ∷ xs) (x ∷ edit_first (λ z. key z == i) f xs)) ≡ option_map f (cond b (Some x) (find (λ z. key z == i) xs))
  at_by true x xs same more =
      ap (λ n. cond (n == i) (Some (f x)) (find (λ z. key z == i) xs)) (keeps x)
      ∙ ap (λ t. cond t (Some (f x)) (find (λ z. key z == i) xs)) same
  at_by false x xs same more =
      ap (λ t. cond t (Some x) (find (λ z. key z == i) (edit_first (λ z. key z == i) f xs))) same ∙ more

  -- What is found where an item is edited is the edit of what was found.
  edit_found : (xs : List A) → find (λ z. key z == i) (edit_first (λ z. key z == i) f xs) ≡ option_map f (find (λ z. key z == i) xs)
  edit_found [] = refl
  edit_found (x ∷ xs) = at_by (key x == i) x xs refl (edit_found xs)

  -- Behind a change of the item of a number, what is found by that number is the changed item.
  pub edit_at : (xs : List A) (y : A) → find (λ z. key z == i) xs ≡ Some y → find (λ z. key z == i) (edit_first (λ z. key z == i) f xs) ≡ Some (f y)
  edit_at xs y e = edit_found xs ∙ ap (option_map f) e

  -- An edit of one item leaves what is found of another, item by item.
  other_by : (j : ℕ) (b : Bool) (x : A) (xs : List A) → (j ≡ i → ⊥) → (key x == i) ≡ b → find (λ z. key z == j) (edit_first (λ z. key z == i) f xs) ≡ find (λ z. key z == j) xs → find (λ z. key z == j) (cond b (f x ∷ xs) (x ∷ edit_first (λ z. key z == i) f xs)) ≡ cond (key x == j) (Some x) (find (λ z. key z == j) xs)
  other_by j true x xs differ same more =
      let apart : (key x ≡ j) → ⊥ = λ e. differ (sym e ∙ (unsigned_Decides (key x) i).0 same) in
      let off : (key x == j) ≡ false = ne_eqb (key x) j apart in
      let off_too : (key (f x) == j) ≡ false = ap (λ n. n == j) (keeps x) ∙ off in
      ap (λ t. cond t (Some (f x)) (find (λ z. key z == j) xs)) off_too
      ∙ sym (ap (λ t. cond t (Some x) (find (λ z. key z == j) xs)) off)
  other_by j false x xs differ same more = ap (cond (key x == j) (Some x)) more

  -- Behind a change of the item of a number, what is found by another number is as before.
  pub edit_other : (j : ℕ) (xs : List A) → (j ≡ i → ⊥) → find (λ z. key z == j) (edit_first (λ z. key z == i) f xs) ≡ find (λ z. key z == j) xs
  edit_other j [] differ = refl
  edit_other j (x ∷ xs) differ = other_by j (key x == i) x xs differ refl (edit_other j xs differ)

-- ---- numbers

-- Numbered actions, with one more that has the next number, are numbered.
pub numbered_more : (n : ℕ) (xs : List Act) (x : Act) → IsNumbered n xs → x.action ≡ n + length xs → IsNumbered n (xs ++ x ∷ [])
numbered_more n [] x all e = (omega arith, tt)
numbered_more n (y ∷ ys) x all e = (all.0, numbered_more (n + 1) ys x all.1 (omega arith))

-- An action's end leaves the actions numbered, action by action.
numbered_by : (b : Bool) (n a : ℕ) (o : Outcome) (y : Act) (ys : List Act) → y.action ≡ n → IsNumbered (n + 1) ys → IsNumbered (n + 1) (ended a o ys) → IsNumbered n (cond b (put_outcome o y ∷ ys) (y ∷ ended a o ys))
numbered_by true n a o y ys e all rest = (e, all)
numbered_by false n a o y ys e all rest = (e, rest)

-- Numbered actions are still so where one of them has ended.
pub numbered_ended : (n a : ℕ) (o : Outcome) (xs : List Act) → IsNumbered n xs → IsNumbered n (ended a o xs)
numbered_ended n a o [] all = tt
numbered_ended n a o (y ∷ ys) all = numbered_by (y.action == a) n a o y ys all.0 all.1 (numbered_ended (n + 1) a o ys all.1)

-- A number above an action's isn't found, where it isn't among the others.
unused_by : (b : Bool) (m : ℕ) (y : Act) (o : Option Act) → (y.action == m) ≡ b → y.action < m → o ≡ None → cond b (Some y) o ≡ None
unused_by true m y o e less none = let same : y.action ≡ m = (unsigned_Decides y.action m).0 e in absurd (omega arith)
unused_by false m y o e less none = none

-- no action has a number above the last
pub unused : (n m : ℕ) (xs : List Act) → IsNumbered n xs → n + length xs ≤ m → act_of xs m ≡ None
unused n m [] all high = refl
unused n m (y ∷ ys) all high =
    let first : y.action ≡ n = all.0 in
    unused_by (y.action == m) m y (act_of ys m) refl (omega arith) (unused (n + 1) m ys all.1 (omega arith))

-- ---- in the beginning

-- Nothing is pending at the root of a new world.
root_idle : (t : Bool) (url : List ℕ) (r : Row) → cond t (Some (root_row url)) None ≡ Some r → r.pending ≡ None
root_idle true url r e = sym (ap (λ z. z.pending) (some_same (root_row url) r e))
root_idle false url r e = absurd (none_some r e)

-- nothing is pending at the root of a new realm
pub tasked_new : (url : List ℕ) → IsTasked (root_row url ∷ []) []
tasked_new url = record {
  rows_of = λ a x there pending. absurd (none_some x there);
  acts_of = λ i a kind r lives pending. absurd (none_some (kind, a) (sym (root_idle (0 == i) url r lives) ∙ pending));
}

-- ---- behind a change that leaves what is pending

-- An action whose row is there still has it where another row was changed.
task_kept : (rows : List Row) (i : ℕ) (f : Row → Row) (y : Act) → ((r : Row) → (f r).inc ≡ r.inc) → (y.inc ≡ i → ⊥) → HasRow rows y → HasRow (changed i f rows) y
task_kept rows i f y keeps differ h = record {
  row = h.row;
  lives = edit_other (λ r. r.inc) i f keeps y.inc rows differ ∙ h.lives;
  pending = h.pending;
  unresolved = h.unresolved;
}

module _ (rows : List Row) (acts : List Act) (i : ℕ) (f : Row → Row) (inc : (r : Row) → (f r).inc ≡ r.inc) (pending : (r : Row) → (f r).pending ≡ r.pending) (decl : (r : Row) → (f r).decl ≡ r.decl) (tasked : IsTasked rows acts) where
  -- An action at the changed row still has its row.
  task_here : (y : Act) → HasRow rows y → y.inc ≡ i → HasRow (changed i f rows) y
  task_here y h same = record {
    row = f h.row;
    lives =
        subst (λ n. row_of (changed i f rows) n ≡ Some (f h.row)) (sym same)
        (edit_at (λ r. r.inc) i f inc rows h.row (sym (ap (row_of rows) same) ∙ h.lives));
    pending = pending h.row ∙ h.pending;
    unresolved = λ resolves. decl h.row ∙ h.unresolved resolves;
  }

  -- A row that is found changed is the change of one that was found.
  was_by : (o : Option Row) (s : Row) → row_of rows i ≡ o → option_map f o ≡ Some s → (r : Row) × (row_of rows i ≡ Some r) × (f r ≡ s)
  was_by None s e found = absurd (none_some s found)
  was_by (Some r) s e found = (r, e, some_same (f r) s found)

  -- The row of the changed incarnation is the change of the one that was there.
  was : (s : Row) → row_of (changed i f rows) i ≡ Some s → (r : Row) × (row_of rows i ≡ Some r) × (f r ≡ s)
  was s found = was_by (row_of rows i) s refl (sym (edit_found (λ z. z.inc) i f inc rows) ∙ found)

  -- What is pending at the changed row was begun there and hasn't ended.
  act_here : (j a : ℕ) (kind : ActKind) (s : Row) → row_of (changed i f rows) j ≡ Some s → s.pending ≡ Some (kind, a) → j ≡ i → IsPendingAt acts j a
  act_here j a kind s found at same =
      let w : (r : Row) × (row_of rows i ≡ Some r) × (f r ≡ s) = was s (subst (λ m. row_of (changed i f rows) m ≡ Some s) same found) in
      subst (λ m. IsPendingAt acts m a) (sym same)
      (tasked.acts_of i a kind w.0 w.1 (sym (pending w.0) ∙ ap (λ z. z.pending) w.2 ∙ at))

  -- Rows and actions still agree behind a change of a row that leaves what is pending.
  pub tasked_changed : IsTasked (changed i f rows) acts
  tasked_changed = record {
    rows_of = λ a y there unended.
        let h : HasRow rows y = tasked.rows_of a y there unended in
        by_test y.inc i (task_here y h) (λ differ. task_kept rows i f y inc differ h);
    acts_of = λ j a kind s found at.
        by_test j i (act_here j a kind s found at)
        (λ differ. tasked.acts_of j a kind s (sym (edit_other (λ z. z.inc) i f inc j rows differ) ∙ found) at);
  }

-- ---- behind a begin

-- an action is pending nowhere where none is
idle_elsewhere : (rows : List Row) (i : ℕ) (r : Row) (y : Act) → row_of rows i ≡ Some r → r.pending ≡ None → HasRow rows y → y.inc ≡ i → ⊥
idle_elsewhere rows i r y lives idle h same =
    let one : h.row ≡ r = some_same h.row r (sym h.lives ∙ ap (row_of rows) same ∙ lives) in
    none_some (y.kind, y.action) (sym idle ∙ sym (ap (λ z. z.pending) one) ∙ h.pending)

module _ (rows : List Row) (acts : List Act) (kind : ActKind) (i caller : ℕ) (r : Row) (tasked : IsTasked rows acts) (numbers : IsNumbered 1 acts) (lives : row_of rows i ≡ Some r) (idle : r.pending ≡ None) (unresolved : kind ≡ Resolve → r.decl ≡ None) where
  -- The number of the action that begins.
  n : ℕ
  n = length acts + 1

  -- The row with the action that begins pending.
  begin_row : Row → Row
  begin_row = set_pending (Some (kind, n))

  -- The action that begins.
  begun : Act
  begun = new_act n kind i caller

  -- The action that begins has its row.
  begun_row : HasRow (changed i begin_row rows) begun
  unfolding begun begin_row n
  begun_row = record {
    row = begin_row r;
    lives = edit_at (λ z. z.inc) i begin_row (λ z. refl) rows r lives;
    pending = refl;
    unresolved = unresolved;
  }

  -- An action that hasn't ended, old or the one that begins, has its row.
  row_by : (a : ℕ) (y : Act) → (act_of acts a ≡ Some y) ⊎ (act_of (begun ∷ []) a ≡ Some y) → y.outcome ≡ None → HasRow (changed i begin_row rows) y
  unfolding begun begin_row n
  row_by a y (inl e) pending =
      let h : HasRow rows y = tasked.rows_of a y e pending in
      task_kept rows i begin_row y (λ z. refl) (idle_elsewhere rows i r y lives idle h) h
  row_by a y (inr e) pending = subst (HasRow (changed i begin_row rows)) (only_by (n == a) begun y e) begun_row

  -- The action that is pending at the row is the one that begins there.
  begun_at : (a : ℕ) (k : ActKind) → ◌≡◌ {A = Option (ActKind × ℕ)} (Some (kind, n)) (Some (k, a)) → IsPendingAt (acts ++ begun ∷ []) i a
  unfolding begun n
  begun_at a k e =
      let same : n ≡ a = ap (λ (p : ActKind × ℕ). p.1) (some_same (kind, n) (k, a) e) in
      subst (IsPendingAt (acts ++ begun ∷ []) i) same
      (record {
        act = begun;
        there = find_last (λ x. x.action == n) acts begun (unused 1 n acts numbers (omega arith)) ((unsigned_Decides n n).1 refl);
        pending = refl;
        at = refl;
      })

  -- An action that is pending at a row is still so with the one that begins.
  act_left : (j a : ℕ) → IsPendingAt acts j a → IsPendingAt (acts ++ begun ∷ []) j a
  act_left j a p = record { act = p.act; there = find_left (λ x. x.action == a) acts (begun ∷ []) p.act p.there; pending = p.pending; at = p.at }

  -- Rows and actions still agree where an action begins at a row at which none is pending.
  pub tasked_begun : IsTasked (changed i (set_pending (Some (kind, length acts + 1))) rows) (acts ++ new_act (length acts + 1) kind i caller ∷ [])
  unfolding begun begin_row n
  tasked_begun = record {
    rows_of = λ a y there pending. row_by a y (find_split (λ x. x.action == a) acts (begun ∷ []) y there) pending;
    acts_of = λ j a k s found pending.
        by_test j i
        (λ same.
        let was : row_of (changed i begin_row rows) i ≡ Some s = subst (λ m. row_of (changed i begin_row rows) m ≡ Some s) same found in
        let one : begin_row r ≡ s = some_same (begin_row r) s (sym (edit_at (λ z. z.inc) i begin_row (λ z. refl) rows r lives) ∙ was) in
        subst (λ m. IsPendingAt (acts ++ begun ∷ []) m a) (sym same) (begun_at a k (ap (λ z. z.pending) one ∙ pending)))
        (λ differ. act_left j a (tasked.acts_of j a k s (sym (edit_other (λ z. z.inc) i begin_row (λ z. refl) j rows differ) ∙ found) pending));
  }

-- ---- behind an end

module _ (rows kids : List Row) (acts : List Act) (a : ℕ) (x : Act) (o : Outcome) (f : Row → Row) (keeps : (r : Row) → (f r).inc ≡ r.inc) (ends : (r : Row) → (f r).pending ≡ None) (fresh : (j : ℕ) (r : Row) → row_of kids j ≡ Some r → r.pending ≡ None) (tasked : IsTasked rows acts) (there : act_of acts a ≡ Some x) (pending : x.outcome ≡ None) where
  -- what hasn't ended behind it hasn't ended before, and is another
  was_open : (b : ℕ) (y : Act) → act_of (ended a o acts) b ≡ Some y → y.outcome ≡ None → (b ≡ a → ⊥) × (act_of acts b ≡ Some y)
  was_open b y e unended =
      let other : (b ≡ a) → ⊥ = λ same.
      let found : act_of (ended a o acts) a ≡ Some y = subst (λ m. act_of (ended a o acts) m ≡ Some y) same e in
      let one : put_outcome o x ≡ y = some_same (put_outcome o x) y (sym (edit_at (λ z. z.action) a (put_outcome o) (λ z. refl) acts x there) ∙ found) in
      none_some o (sym unended ∙ sym (ap (λ z. z.outcome) one)) in
      (other, sym (edit_other (λ z. z.action) a (put_outcome o) (λ z. refl) b acts other) ∙ e)

  -- two unended actions at one row are one
  elsewhere : (b : ℕ) (y : Act) → (b ≡ a → ⊥) → act_of acts b ≡ Some y → HasRow rows y → y.inc ≡ x.inc → ⊥
  elsewhere b y other e h same =
      let mine : HasRow rows x = tasked.rows_of a x there pending in
      let one : h.row ≡ mine.row = some_same h.row mine.row (sym h.lives ∙ ap (row_of rows) same ∙ mine.lives) in
      let pair : (y.kind, y.action) ≡ (x.kind, x.action) = some_same (y.kind, y.action) (x.kind, x.action) (sym h.pending ∙ ap (λ z. z.pending) one ∙ mine.pending) in
      let number : y.action ≡ x.action = ap (λ (p : ActKind × ℕ). p.1) pair in
      let here : y.action ≡ b = (unsigned_Decides y.action b).0 (find-passes (λ z. z.action == b) acts y e) in
      let there_too : x.action ≡ a = (unsigned_Decides x.action a).0 (find-passes (λ z. z.action == a) acts x there) in
      other (sym here ∙ number ∙ there_too)

  -- An action that has its row still has it with the rows of children behind.
  row_left : (y : Act) → HasRow (changed x.inc f rows) y → HasRow (changed x.inc f rows ++ kids) y
  row_left y h = record { row = h.row; lives = find_left (λ r. r.inc == y.inc) (changed x.inc f rows) kids h.row h.lives; pending = h.pending; unresolved = h.unresolved }

  -- An action that is pending at another row is still so once this one has ended.
  act_stays : (j b : ℕ) (k : ActKind) (s : Row) → row_of rows j ≡ Some s → s.pending ≡ Some (k, b) → (j ≡ x.inc → ⊥) → IsPendingAt (ended a o acts) j b
  act_stays j b k s found at differ =
      let p : IsPendingAt acts j b = tasked.acts_of j b k s found at in
      let other : (b ≡ a) → ⊥ = λ same.
      let one : p.act ≡ x = some_same p.act x (sym p.there ∙ ap (act_of acts) same ∙ there) in
      differ (sym p.at ∙ ap (λ z. z.inc) one) in
      record { act = p.act; there = edit_other (λ z. z.action) a (put_outcome o) (λ z. refl) b acts other ∙ p.there; pending = p.pending; at = p.at }

  -- What is pending at a row, an old one or that of a child, was begun there and hasn't ended.
  act_by : (j b : ℕ) (k : ActKind) (s : Row) → (row_of (changed x.inc f rows) j ≡ Some s) ⊎ (row_of kids j ≡ Some s) → s.pending ≡ Some (k, b) → IsPendingAt (ended a o acts) j b
  act_by j b k s (inr e) at = absurd (none_some (k, b) (sym (fresh j s e) ∙ at))
  act_by j b k s (inl e) at =
      by_test j x.inc
      (λ same.
      let mine : HasRow rows x = tasked.rows_of a x there pending in
      let found : row_of (changed x.inc f rows) x.inc ≡ Some s = subst (λ m. row_of (changed x.inc f rows) m ≡ Some s) same e in
      let one : f mine.row ≡ s = some_same (f mine.row) s (sym (edit_at (λ z. z.inc) x.inc f keeps rows mine.row mine.lives) ∙ found) in
      absurd (none_some (k, b) (sym (ends mine.row) ∙ ap (λ z. z.pending) one ∙ at)))
      (λ differ. act_stays j b k s (sym (edit_other (λ z. z.inc) x.inc f keeps j rows differ) ∙ e) at differ)

  -- Rows and actions still agree where an action ends at its row and new idle rows come.
  pub tasked_ended : IsTasked (changed x.inc f rows ++ kids) (ended a o acts)
  tasked_ended = record {
    rows_of = λ b y e unended.
        let was : (b ≡ a → ⊥) × (act_of acts b ≡ Some y) = was_open b y e unended in
        let h : HasRow rows y = tasked.rows_of b y was.1 unended in
        row_left y (task_kept rows x.inc f y keeps (elsewhere b y was.0 was.1 h) h);
    acts_of = λ j b k s e at. act_by j b k s (find_split (λ r. r.inc == j) (changed x.inc f rows) kids s e) at;
  }

-- Nothing is pending at the row of a declared child, row by row.
kid_by : (t : Bool) (p n : ℕ) (k : Child) (r : Row) (o : Option Row) → (o ≡ Some r → r.pending ≡ None) → cond t (Some (child_row p n k)) o ≡ Some r → r.pending ≡ None
kid_by true p n k r o more e = sym (ap (λ z. z.pending) (some_same (child_row p n k) r e))
kid_by false p n k r o more e = more e

-- nothing is pending at a new child
pub idle_kids : (p n : ℕ) (ks : List Child) (j : ℕ) (r : Row) → row_of (child_rows p n ks) j ≡ Some r → r.pending ≡ None
idle_kids p n [] j r e = absurd (none_some r e)
idle_kids p n (k ∷ ks) j r e = kid_by (n == j) p n k r (row_of (child_rows p (n + 1) ks) j) (idle_kids p (n + 1) ks j r) e
