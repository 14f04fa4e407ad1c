-- The children of a row, one behind another.
use Rattle.std.proofs.Common.{◌≡◌, ℕ, ◌<◌, ◌≤◌, List, [], ◌∷◌, Bool, true, false, cond, ◌&&◌, ◌==◌, nat_lt, true≢false, Option, Some, None, IsTrue, find, option_map, refl, sym, ◌∙◌, ap, subst, inl, inr, ◌⊎◌, arith}
use Rattle.std.specs.Cmp.{unsigned_Decides, first_so, second_so}
use Rattle.std.proofs.lemmas.Bool.{lt-ltb}
use Rattle.cm_facts.proofs.Booleans.{true_and_false}
use Rattle.cm_facts.proofs.Options.{option_eq_some}
use Rattle.cm_world.specs.declared.row.Row.{Row}
use Rattle.cm_world.specs.Rows.{row_of, has_parent}
use Rattle.cm_world.specs.RowsInside.{is_behind, child_behind}
use Rattle.cm_world.specs.Sound.{IncarnationsIncrease, IsOrderly}
use Rattle.cm_world.proofs.lemmas.trees.Finding.{none_some, some_same, row_of-inc, find-passes}
use Rattle.cm_world.proofs.lemmas.trees.Walks.{find-lives}
use Rattle.cm_trees.specs.Kids.{IsKid}
use Rattle.cm_trees.proofs.trees.Trees.{eq_some, and_pair}

-- the same incarnation, or one behind it
same_or_later : (c i : ℕ) → c ≤ i → (i ≡ c) ⊎ IsTrue (nat_lt c i)
same_or_later c i low = by (c == i) refl where
  by : (t : Bool) → (c == i) ≡ t → (i ≡ c) ⊎ IsTrue (nat_lt c i)
  by true e = inl (sym ((unsigned_Decides c i).0 e))
  by false e = inr (lt-ltb c i (let apart : c ≡ i → ⊥ = λ same. true≢false (sym ((unsigned_Decides c i).1 same) ∙ e) in omega arith))

-- ---- the first that is found

module _ (q : Row → Bool) where
  -- The incarnation found by a test is at most that of each row that passes, if so in the rest.
  least_by : (t : Bool) (next : ℕ) (s r : Row) (ss : List Row) (i : ℕ) (z : Row) → q s ≡ t → IncarnationsIncrease next (s ∷ ss) → (row_of ss i ≡ Some z → find q ss ≡ Some r → r.inc ≤ i) → row_of (s ∷ ss) i ≡ Some z → IsTrue (q z) → cond t (Some s) (find q ss) ≡ Some r → r.inc ≤ i
  least_by t next s r ss i z is increasing more lives passes found = at (s.inc == i) t refl is found where
    at : (b t : Bool) → (s.inc == i) ≡ b → q s ≡ t → cond t (Some s) (find q ss) ≡ Some r → r.inc ≤ i
    at true true e is found =
        let own : s.inc ≡ i = (unsigned_Decides s.inc i).0 e in
        let same : s.inc ≡ r.inc = ap (λ z. z.inc) (some_same s r found) in omega arith
    at true false e is found =
        let same : s ≡ z = some_same s z (rw e at lives) in true_and_false (q s) (subst (λ x. IsTrue (q x)) (sym same) passes) is
    at false true e is found =
        let rest : row_of ss i ≡ Some z = rw e at lives in
        let low : s.inc < i = increasing.0.1 i (rw rest refl) in
        let same : s.inc ≡ r.inc = ap (λ z. z.inc) (some_same s r found) in omega arith
    at false false e is found = more (rw e at lives) found

  -- what is found has the least incarnation of those that pass
  pub least_found : (next : ℕ) (rows : List Row) (r : Row) (i : ℕ) (z : Row) → IncarnationsIncrease next rows → row_of rows i ≡ Some z → IsTrue (q z) → find q rows ≡ Some r → r.inc ≤ i
  least_found next [] r i z increasing lives passes found = absurd (none_some z lives)
  least_found next (s ∷ ss) r i z increasing lives passes found =
      least_by (q s) next s r ss i z refl increasing (λ there later. least_found next ss r i z increasing.1 there passes later) lives passes found

  -- Where a row passes a test, some row is found by it, if so in the rest.
  none_by : (s : Row) (ss : List Row) (i : ℕ) (z : Row) (t : Bool) → q s ≡ t → (row_of ss i ≡ Some z → find q ss ≡ None → ⊥) → row_of (s ∷ ss) i ≡ Some z → IsTrue (q z) → cond t (Some s) (find q ss) ≡ None → ⊥
  none_by s ss i z true is more lives passes none = none_some s (sym none)
  none_by s ss i z false is more lives passes none = at (s.inc == i) refl where
    at : (b : Bool) → (s.inc == i) ≡ b → ⊥
    at true e = let same : s ≡ z = some_same s z (rw e at lives) in true_and_false (q s) (subst (λ x. IsTrue (q x)) (sym same) passes) is
    at false e = more (rw e at lives) none

  -- where nothing is found, no row that lives passes
  pub none_found : (rows : List Row) (i : ℕ) (z : Row) → row_of rows i ≡ Some z → IsTrue (q z) → find q rows ≡ None → ⊥
  none_found [] i z lives passes none = none_some z lives
  none_found (s ∷ ss) i z lives passes none = none_by s ss i z (q s) refl (λ there later. none_found ss i z there passes later) lives passes none

-- ---- children behind one another

-- A child behind an incarnation passes the test for the next child.
kid_passes : (rows : List Row) (p : ℕ) (after : Option ℕ) (i : ℕ) (kid : IsKid rows p i) → IsTrue (is_behind after i) → IsTrue (has_parent p kid.row && is_behind after kid.row.inc)
kid_passes rows p after i kid behind =
    and_pair (has_parent p kid.row) (is_behind after kid.row.inc) (eq_some kid.row.parent p kid.parent) (subst (λ j. IsTrue (is_behind after j)) (sym (row_of-inc rows i kid.row kid.lives)) behind)

-- Where no next child is found, no child stands behind that incarnation.
none_at : (rows : List Row) (p : ℕ) (after : Option ℕ) (i : ℕ) (o : Option Row) → find (λ r. has_parent p r && is_behind after r.inc) rows ≡ o → option_map (λ r. r.inc) o ≡ None → IsKid rows p i → IsTrue (is_behind after i) → ⊥
none_at rows p after i None found e kid behind = none_found (λ r. has_parent p r && is_behind after r.inc) rows i kid.row kid.lives (kid_passes rows p after i kid behind) found
none_at rows p after i (Some r) found e kid behind = none_some r.inc (sym e)

-- where none is found, there is none
pub no_kids : (rows : List Row) (p : ℕ) (after : Option ℕ) (i : ℕ) → child_behind rows p after ≡ None → IsKid rows p i → IsTrue (is_behind after i) → ⊥
no_kids rows p after i none kid behind = none_at rows p after i (find (λ r. has_parent p r && is_behind after r.inc) rows) refl none kid behind

module _ (rows : List Row) (next : ℕ) (orderly : IsOrderly rows next) where
  -- The next child that is found is a child behind that incarnation.
  found_at : (p : ℕ) (after : Option ℕ) (c : ℕ) (o : Option Row) → find (λ r. has_parent p r && is_behind after r.inc) rows ≡ o → option_map (λ r. r.inc) o ≡ Some c → IsKid rows p c × IsTrue (is_behind after c)
  found_at p after c None found e = absurd (none_some c e)
  found_at p after c (Some r) found e =
      let own : r.inc ≡ c = some_same r.inc c e in
      let passes : IsTrue (has_parent p r && is_behind after r.inc) = find-passes (λ r. has_parent p r && is_behind after r.inc) rows r found in (
        record {
          row = r;
          lives = subst (λ i. row_of rows i ≡ Some r) own (find-lives (λ r. has_parent p r && is_behind after r.inc) rows next r orderly.increasing found);
          parent = option_eq_some r.parent p (first_so (has_parent p r) (is_behind after r.inc) passes);
        },
        subst (λ i. IsTrue (is_behind after i)) own (second_so (has_parent p r) (is_behind after r.inc) passes),
      )

  -- a child that is found is one, and stands behind
  pub next_kid : (p : ℕ) (after : Option ℕ) (c : ℕ) → child_behind rows p after ≡ Some c → IsKid rows p c × IsTrue (is_behind after c)
  next_kid p after c found = found_at p after c (find (λ r. has_parent p r && is_behind after r.inc) rows) refl found

  -- The next child that is found is the first of the children behind that incarnation.
  least_at : (p : ℕ) (after : Option ℕ) (c i : ℕ) (o : Option Row) → find (λ r. has_parent p r && is_behind after r.inc) rows ≡ o → option_map (λ r. r.inc) o ≡ Some c → IsKid rows p i → IsTrue (is_behind after i) → c ≤ i
  least_at p after c i None found e kid behind = absurd (none_some c e)
  least_at p after c i (Some r) found e kid behind =
      let own : r.inc ≡ c = some_same r.inc c e in
      let least : r.inc ≤ i = least_found (λ r. has_parent p r && is_behind after r.inc) next rows r i kid.row orderly.increasing kid.lives (kid_passes rows p after i kid behind) found in
      omega arith

  -- each child behind is the one that is found, or stands behind it
  pub other_kids : (p : ℕ) (after : Option ℕ) (c i : ℕ) → child_behind rows p after ≡ Some c → IsKid rows p i → IsTrue (is_behind after i) → (i ≡ c) ⊎ IsTrue (is_behind (Some c) i)
  other_kids p after c i found kid behind = same_or_later c i (least_at p after c i (find (λ r. has_parent p r && is_behind after r.inc) rows) refl found kid behind)
