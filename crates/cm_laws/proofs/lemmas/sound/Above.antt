-- Whether a row, or one above it, passes a test, in orderly rows and behind a change of them.
use Rattle.std.proofs.Common.{◌≡◌, ℕ, zero, suc, List, Bool, false, Option, Some, None, IsTrue, length, refl, sym, ◌∙◌, ap, inl, inr, ◌⊎◌}
use Rattle.std.proofs.lemmas.Bool.{or_cases}
use Rattle.cm_facts.proofs.Booleans.{true_and_false}
use Rattle.cm_world.specs.declared.row.Row.{Row}
use Rattle.cm_world.specs.Rows.{row_of, at_or_above, some_above}
use Rattle.cm_world.specs.Sound.{IsOrderly}
use Rattle.cm_world.proofs.lemmas.trees.Climbing.{some_above-step, above_root}
use Rattle.cm_trees.proofs.trees.Trees.{climb, or_left, or_right}

module _ (passes : Row → Bool) (rows : List Row) where
  -- Of an incarnation without a row none at or above it passes.
  nothing_above : (n i : ℕ) → row_of rows i ≡ None → at_or_above n passes rows (Some i) ≡ false
  nothing_above zero i none = refl
  nothing_above (suc n) i none = rw (none, at_or_above) refl

  -- A row that passes, itself or by one above it, is there, by what was found.
  lives_by : (i : ℕ) (o : Option Row) → row_of rows i ≡ o → IsTrue (some_above passes rows i) → (r : Row) × (row_of rows i ≡ Some r)
  lives_by i None e above = true_and_false (some_above passes rows i) above (nothing_above (length rows) i e)
  lives_by i (Some r) e above = (r, e)

  -- a row of which it is said lives
  pub above_lives : (i : ℕ) → IsTrue (some_above passes rows i) → (r : Row) × (row_of rows i ≡ Some r)
  above_lives i above = lives_by i (row_of rows i) refl above

  -- Where one at or above what may be a parent passes, there is a parent, and it is so of it.
  parent_by : (o : Option ℕ) → IsTrue (at_or_above (length rows) passes rows o) → (p : ℕ) × (o ≡ Some p) × IsTrue (some_above passes rows p)
  parent_by None above =
      true_and_false (at_or_above (length rows) passes rows None) above (above_root (length rows) passes rows)
  parent_by (Some p) above = (p, refl, above)

  module _ (next : ℕ) (orderly : IsOrderly rows next) where
    -- it is said of a row that passes, and of one whose parent it is said of
    pub above_here : (i : ℕ) (r : Row) → row_of rows i ≡ Some r → IsTrue (passes r) → IsTrue (some_above passes rows i)
    above_here i r lives here =
        some_above-step passes rows next i r orderly lives ∙ or_left (passes r) (at_or_above (length rows) passes rows r.parent) here

    -- Where a row at or above the parent passes, one at or above the child does.
    pub above_up : (i p : ℕ) (r : Row) → row_of rows i ≡ Some r → r.parent ≡ Some p → IsTrue (some_above passes rows p) → IsTrue (some_above passes rows i)
    above_up i p r lives parent above =
        some_above-step passes rows next i r orderly lives
        ∙ or_right (passes r) (at_or_above (length rows) passes rows r.parent) (ap (at_or_above (length rows) passes rows) parent ∙ above)

    -- and of no other
    pub above_cases : (i : ℕ) (r : Row) → row_of rows i ≡ Some r → IsTrue (some_above passes rows i) → IsTrue (passes r) ⊎ ((p : ℕ) × (r.parent ≡ Some p) × IsTrue (some_above passes rows p))
    above_cases i r lives above =
        elim (or_cases (passes r) (at_or_above (length rows) passes rows r.parent) (sym (some_above-step passes rows next i r orderly lives) ∙ above)) [
          | inl here ↦ inl here
          | inr higher ↦ inr (parent_by r.parent higher)
        ]

-- where rows keep their parents and the tests that they pass, it lasts for each row that is left
module _ (p q : Row → Bool) (old new : List Row) (m n : ℕ) (was : IsOrderly old m) (is : IsOrderly new n) (keeps : (i : ℕ) (r s : Row) → row_of old i ≡ Some r → row_of new i ≡ Some s → (s.parent ≡ r.parent) × (IsTrue (p r) → IsTrue (q s))) where
  -- Where a row passed before, itself or by its parent, it does so after the change.
  lasts_by : (i : ℕ) (r s : Row) → row_of new i ≡ Some s → (s.parent ≡ r.parent) × (IsTrue (p r) → IsTrue (q s)) → ((j : ℕ) → s.parent ≡ Some j → IsTrue (some_above p old j) → IsTrue (some_above q new j)) → IsTrue (p r) ⊎ ((j : ℕ) × (r.parent ≡ Some j) × IsTrue (some_above p old j)) → IsTrue (some_above q new i)
  lasts_by i r s lives kept up (inl here) = above_here q new n is i s lives (kept.1 here)
  lasts_by i r s lives kept up (inr higher) =
      let parent : s.parent ≡ Some higher.0 = kept.0 ∙ higher.1 in
      above_up q new n is i higher.0 s lives parent (up higher.0 parent higher.2)

  -- A row that passed before, itself or by one above, still does, where its parent does.
  step : (i : ℕ) (s : Row) → row_of new i ≡ Some s → ((j : ℕ) → s.parent ≡ Some j → IsTrue (some_above p old j) → IsTrue (some_above q new j)) → IsTrue (some_above p old i) → IsTrue (some_above q new i)
  step i s lives up above =
      let r : (r : Row) × (row_of old i ≡ Some r) = above_lives p old i above in
      lasts_by i r.0 s lives (keeps i r.0 s r.1 lives) up (above_cases p old m was i r.0 r.1 above)

  -- That a row or one above it passes lasts, where rows keep their parents and what they pass.
  pub above_lasts : (i : ℕ) (s : Row) → row_of new i ≡ Some s → IsTrue (some_above p old i) → IsTrue (some_above q new i)
  above_lasts i s lives above =
      climb new n is (λ j. IsTrue (some_above p old j) → IsTrue (some_above q new j)) step i s lives above
