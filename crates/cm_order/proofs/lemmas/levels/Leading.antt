-- Which child of a level leads next.
use Rattle.std.proofs.Common.{◌≡◌, ℕ, ◌<◌, List, Bool, true, false, true≢false, Option, Some, None, IsTrue, refl, sym, ◌∙◌, subst, inl, inr, arith}
use Rattle.std.specs.Prelude.{◌↔◌}
use Rattle.std.proofs.lemmas.Bool.{lt-ltb, ltb-true}
use Rattle.cm_world.specs.declared.row.Row.{Row}
use Rattle.cm_world.specs.RowsInside.{is_behind, child_behind}
use Rattle.cm_world.specs.Sound.{IsOrderly}
use Rattle.cm_trees.specs.Kids.{IsKid}
use Rattle.cm_order.specs.Search.{IsFreeAt, LeadsNext}
use Rattle.cm_trees.proofs.levels.Kids.{next_kid, other_kids, no_kids}

-- ---- the next that leads

-- all children behind the first that lead still come
pub record IsPassing (rows : List Row) (p : ℕ) (first last : Option ℕ) : Type 0 where
  pub later : (c : ℕ) → IsTrue (is_behind last c) → IsTrue (is_behind first c)
  pub left : (c : ℕ) → IsKid rows p c → IsTrue (is_behind first c) → IsFreeAt rows p c → IsTrue (is_behind last c)

module _ (rows : List Row) (next : ℕ) (orderly : IsOrderly rows next) (p : ℕ) where
  -- What stands behind one that stands behind a place stands behind that place.
  later_on : (last : Option ℕ) (b c : ℕ) → IsTrue (is_behind last b) → IsTrue (is_behind (Some b) c) → IsTrue (is_behind last c)
  later_on None b c first second = refl
  later_on (Some a) b c first second =
      let low : a < b = ltb-true a b first in
      let high : b < c = ltb-true b c second in
      lt-ltb a c (omega arith)

  -- Where the next child may not be gone on to, all that may be still come behind it.
  pub passing_on : (first last : Option ℕ) (c : ℕ) (leads : Bool) → IsPassing rows p first last → Some c ≡ child_behind rows p last → IsTrue leads ↔ IsFreeAt rows p c → leads ≡ false → IsPassing rows p first (Some c)
  passing_on first last c leads is found answers no_way =
      let kid : IsKid rows p c × IsTrue (is_behind last c) = next_kid rows next orderly p last c (sym found) in
      record {
        later = λ i behind. is.later i (later_on last c i kid.1 behind);
        left = λ i other behind lead. elim (other_kids rows next orderly p last c i (sym found) other (is.left i other behind lead)) [
          | inl same ↦ absurd (true≢false (sym (answers.1 (subst (IsFreeAt rows p) same lead)) ∙ no_way))
          | inr more ↦ more
        ];
      }

  -- The next child, if it may be gone on to, is the first that may after the given one.
  pub passing_found : (first last : Option ℕ) (c : ℕ) (leads : Bool) → IsPassing rows p first last → Some c ≡ child_behind rows p last → IsTrue leads ↔ IsFreeAt rows p c → leads ≡ true → LeadsNext rows p first c
  passing_found first last c leads is found answers there =
      let kid : IsKid rows p c × IsTrue (is_behind last c) = next_kid rows next orderly p last c (sym found) in
      record {
        kid = kid.0;
        behind = is.later c kid.1;
        leads = answers.0 there;
        others = λ i other behind lead. other_kids rows next orderly p last c i (sym found) other (is.left i other behind lead);
      }

  -- Where no child is left, none after the given one may be gone on to.
  pub passing_ends : (first last : Option ℕ) → IsPassing rows p first last → None ≡ child_behind rows p last → (c : ℕ) → IsKid rows p c → IsTrue (is_behind first c) → IsFreeAt rows p c → ⊥
  passing_ends first last is none c kid behind lead = no_kids rows p last c (sym none) kid (is.left c kid behind lead)
