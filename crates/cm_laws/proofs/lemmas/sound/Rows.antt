-- What becomes of the rows of a tree when one is changed, when some are added, and when some are taken away.
use Rattle.std.proofs.Common.{◌≡◌, ℕ, ◌≤◌, List, [], ◌∷◌, ◌++◌, Bool, true, false, cond, ◌==◌, Option, Some, None, IsTrue, filter, refl, sym, ◌∙◌, ap, subst, inl, inr, ◌⊎◌}
use Rattle.std.specs.Cmp.{unsigned_Decides}
use Rattle.cm_facts.proofs.Options.{is_some_true}
use Rattle.cm_world.specs.declared.row.Row.{Row}
use Rattle.cm_world.specs.Rows.{row_of, is_closing}
use Rattle.cm_world.specs.End.{changed}
use Rattle.cm_world.specs.Sound.{IncarnationsIncrease, IsOrderly}
use Rattle.cm_world.proofs.lemmas.trees.Finding.{none_some, some_same}
use Rattle.cm_trees.proofs.rows.Rows.{lives_left, Was, was_before, row_of-changed, is_some_by}
use Rattle.cm_laws.proofs.lemmas.actions.Tasks.{by_test, edit_other, find_split}
use Rattle.cm_laws.proofs.lemmas.sound.Above.{above_lasts}

-- a row that was another before: it has the same parent, and what it was marked with, or shut, it still is
pub record Lasts (r s : Row) : Type 0 where
  pub parent : s.parent ≡ r.parent
  pub closing : r.closing ≡ true → s.closing ≡ true
  pub doomed : r.doomed ≡ true → s.doomed ≡ true
  pub shut : r.shut ≡ true → s.shut ≡ true

-- the rows behind an entry: those that are left last, and all others have new incarnations, from m on
pub record Follows (old new : List Row) (m : ℕ) : Type 0 where
  pub lasts : (i : ℕ) (r s : Row) → row_of old i ≡ Some r → row_of new i ≡ Some s → Lasts r s
  pub known : (i : ℕ) (s : Row) → row_of new i ≡ Some s → ((r : Row) × (row_of old i ≡ Some r)) ⊎ (m ≤ i)

-- A row that is as it was before keeps its parent and its marks.
pub lasts_itself : (r s : Row) → s ≡ r → Lasts r s
lasts_itself r s e = subst (Lasts r) (sym e) (record { parent = refl; closing = λ h. h; doomed = λ h. h; shut = λ h. h })

-- rows that are the same as before
pub follows_itself : (rows : List Row) (m : ℕ) → Follows rows rows m
follows_itself rows m = record {
  lasts = λ i r s was is. lasts_itself r s (some_same s r (sym is ∙ was));
  known = λ i s is. inl (s, is);
}

-- where rows follow others, each that is left and was closing, or below a closing one, still is
pub closing_lasts : (old new : List Row) (m n k : ℕ) → IsOrderly old m → IsOrderly new n → Follows old new k → (i : ℕ) (s : Row) → row_of new i ≡ Some s → IsTrue (is_closing old i) → IsTrue (is_closing new i)
closing_lasts old new m n k was is follows =
    above_lasts (λ r. r.closing) (λ r. r.closing) old new m n was is
    (λ i r s here now. ((follows.lasts i r s here now).parent, (follows.lasts i r s here now).closing))

-- ---- one row changed

-- a row behind a change of row i: as before, or row i itself with the change
pub record Kept (rows : List Row) (i : ℕ) (f : Row → Row) (j : ℕ) (s : Row) : Type 0 where
  pub row : Row
  pub was : row_of rows j ≡ Some row
  pub is : (s ≡ row) ⊎ ((j ≡ i) × (s ≡ f row))

module _ (rows : List Row) (i : ℕ) (f : Row → Row) (inc : (r : Row) → (f r).inc ≡ r.inc) where
  -- A row after a change of one is as before, or is the one with the change.
  kept_by : (j : ℕ) (s : Row) → row_of (changed i f rows) j ≡ Some s → Was f (row_of rows j) s → Kept rows i f j s
  kept_by j s is w =
      by_test j i
      (λ same. let here : row_of rows i ≡ Some w.row = sym (ap (row_of rows) same) ∙ w.was in
      let now : row_of (changed i f rows) i ≡ Some s = sym (ap (row_of (changed i f rows)) same) ∙ is in
      record { row = w.row; was = w.was; is = inr (same, sym (some_same (f w.row) s (sym (row_of-changed i f inc rows w.row here) ∙ now))) })
      (λ differ. record { row = s; was = sym (edit_other (λ z. z.inc) i f inc j rows differ) ∙ is; is = inl refl })

  -- A row behind a change of one row is as it was before, or it is that row with the change.
  pub kept : (j : ℕ) (s : Row) → row_of (changed i f rows) j ≡ Some s → Kept rows i f j s
  kept j s is = kept_by j s is (was_before i f inc rows j s is)

  -- A row that is as before, or is the one with a change that lasts, lasts.
  lasts_by : (j : ℕ) (r s : Row) → Lasts r (f r) → (s ≡ r) ⊎ ((j ≡ i) × (s ≡ f r)) → Lasts r s
  lasts_by j r s more (inl same) = lasts_itself r s same
  lasts_by j r s more (inr own) = subst (Lasts r) (sym own.1) more

  -- After a change that makes its row last, each row lasts.
  row_lasts : ((r : Row) → Lasts r (f r)) → (j : ℕ) (r s : Row) → row_of rows j ≡ Some r → Kept rows i f j s → Lasts r s
  row_lasts more j r s was k =
      let same : k.row ≡ r = some_same k.row r (sym k.was ∙ was) in
      subst (λ (z : Row). Lasts z s) same (lasts_by j k.row s (more k.row) k.is)

  -- Where one row is changed and keeps its parent and its marks, the rows follow those before.
  pub follows_changed : (m : ℕ) → ((r : Row) → Lasts r (f r)) → Follows rows (changed i f rows) m
  follows_changed m more = record {
    lasts = λ j r s was is. row_lasts more j r s was (kept j s is);
    known = λ j s is. let k : Kept rows i f j s = kept j s is in inl (k.row, k.was);
  }

-- ---- more rows

-- rows with more behind them follow what those before them follow
pub follows_more : (old new kids : List Row) (m : ℕ) → Follows old new m → ((i : ℕ) (r : Row) → row_of old i ≡ Some r → (s : Row) × (row_of new i ≡ Some s)) → ((i : ℕ) (s : Row) → row_of kids i ≡ Some s → m ≤ i) → Follows old (new ++ kids) m
follows_more old new kids m follows all fresh = record {
  lasts = λ i r s was is. let t : (t : Row) × (row_of new i ≡ Some t) = all i r was in
      let same : t.0 ≡ s = some_same t.0 s (sym (lives_left new kids i t.0 t.1) ∙ is) in
      subst (Lasts r) same (follows.lasts i r t.0 was t.1);
  known = λ i s is. elim (find_split (λ r. r.inc == i) new kids s is) [
    | inl left ↦ follows.known i s left
    | inr kid ↦ inr (fresh i s kid)
  ];
}

-- ---- fewer rows

-- of rows that are kept by their incarnations
module _ (keeps : ℕ → Bool) where
  -- The rows that are left.
  abbrev left : List Row → List Row
  left rows = filter (λ r. keeps r.inc) rows

  -- What is found among rows that are left is what was found, if it is left, row by row.
  found_by : (t u b : Bool) (x : Row) (o p : Option Row) → (u ≡ true → t ≡ b) → p ≡ cond b o None → cond t (cond u (Some x) p) p ≡ cond b (cond u (Some x) o) None
  found_by true true true x o p same more = refl
  found_by true true false x o p same more = absurd (let e : true ≡ false = same refl in cc)
  found_by true false b x o p same more = more
  found_by false true true x o p same more = absurd (let e : false ≡ true = same refl in cc)
  found_by false true false x o p same more = more
  found_by false false b x o p same more = more

  -- A row is found with one more before those left, as far as that is left itself.
  kept_at : (t : Bool) (x : Row) (xs : List Row) (j : ℕ) → row_of (cond t (x ∷ left xs) (left xs)) j ≡ cond t (cond (x.inc == j) (Some x) (row_of (left xs) j)) (row_of (left xs) j)
  kept_at true x xs j = refl
  kept_at false x xs j = refl

  -- a row is left where its incarnation is kept
  pub row_of-left : (rows : List Row) (j : ℕ) → row_of (left rows) j ≡ cond (keeps j) (row_of rows j) None
  row_of-left [] j = none_by (keeps j) where
    none_by : (b : Bool) → row_of [] j ≡ cond b (row_of [] j) None
    none_by true = refl
    none_by false = refl
  row_of-left (x ∷ xs) j =
      kept_at (keeps x.inc) x xs j
      ∙ found_by (keeps x.inc) (x.inc == j) (keeps j) x (row_of xs j) (row_of (left xs) j) (λ e. ap keeps ((unsigned_Decides x.inc j).0 e)) (row_of-left xs j)

  -- What is found under a condition was found, and the condition holds.
  some_by : (b : Bool) (o : Option Row) (s : Row) → cond b o None ≡ Some s → (o ≡ Some s) × (b ≡ true)
  some_by true o s e = (e, refl)
  some_by false o s e = absurd (none_some s e)

  -- A row that is left was there before, and its incarnation is kept.
  pub was_left : (rows : List Row) (j : ℕ) (s : Row) → row_of (left rows) j ≡ Some s → (row_of rows j ≡ Some s) × (keeps j ≡ true)
  was_left rows j s is = some_by (keeps j) (row_of rows j) s (sym (row_of-left rows j) ∙ is)

  -- A row that was there is left where its incarnation is kept.
  pub is_left : (rows : List Row) (j : ℕ) (s : Row) → row_of rows j ≡ Some s → keeps j ≡ true → row_of (left rows) j ≡ Some s
  is_left rows j s was kept = row_of-left rows j ∙ ap (λ b. cond b (row_of rows j) None) kept ∙ was

  -- Incarnations of the rows that are left increase, row by row.
  increasing_by : (t : Bool) (next : ℕ) (x : Row) (xs : List Row) → IncarnationsIncrease next (x ∷ xs) → IncarnationsIncrease next (left xs) → IncarnationsIncrease next (cond t (x ∷ left xs) (left xs))
  increasing_by true next x xs increasing rest = (
    (
      increasing.0.0,
      λ s there. let r : (r : Row) × (row_of (left xs) s ≡ Some r) = is_some_true (row_of (left xs) s) there in
          increasing.0.1 s (is_some_by (row_of xs s) r.0 (was_left xs s r.0 r.1).0),
    ),
    rest,
  )
  increasing_by false next x xs increasing rest = rest

  -- Where incarnations increase, those of the rows that are left do.
  pub increasing_left : (next : ℕ) (rows : List Row) → IncarnationsIncrease next rows → IncarnationsIncrease next (left rows)
  increasing_left next [] increasing = tt
  increasing_left next (x ∷ xs) increasing = increasing_by (keeps x.inc) next x xs increasing (increasing_left next xs increasing.1)

  -- The rows that are left follow those before: each is as it was, and none is new.
  pub follows_left : (rows : List Row) (m : ℕ) → Follows rows (left rows) m
  follows_left rows m = record {
    lasts = λ i r s was is. lasts_itself r s (some_same s r (sym (was_left rows i s is).0 ∙ was));
    known = λ i s is. inl (s, (was_left rows i s is).0);
  }
