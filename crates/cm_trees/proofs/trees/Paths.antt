-- Freedom at each level on the way up from a row.
use Rattle.std.proofs.Common.{◌≡◌, ℕ, ◌<◌, ◌≤◌, List, [], ◌∷◌, false, Option, Some, None, IsTrue, filter, refl, sym, ◌∙◌, ap, subst, inl, inr, arith}
use Rattle.cm_world.specs.declared.row.Row.{Row}
use Rattle.cm_world.specs.Rows.{row_of, is_below}
use Rattle.cm_world.specs.Sound.{IsOrderly, IsParent}
use Rattle.cm_world.specs.Stopping.{IsFree, line_up_to, AllFree}
use Rattle.cm_trees.specs.Kids.{IsKid}
use Rattle.cm_trees.proofs.trees.Trees.{climb, line_first, line_more, below_self, below_up, below_cases, below_lives, below_least, below_trans, kid_below, parent_lives, not_true}

-- all levels up to a child and the level above it are all levels up to its parent
pub record IsPath (rows : List Row) (p c y : ℕ) : Type 0 where
  pub more : (x : ℕ) → AllFree rows x (line_up_to rows c y) → IsFree rows p c → AllFree rows x (line_up_to rows p y)
  pub less : (x : ℕ) → AllFree rows x (line_up_to rows p y) → AllFree rows x (line_up_to rows c y) × IsFree rows p c

module _ (rows : List Row) (next : ℕ) (orderly : IsOrderly rows next) where
  -- ---- the line up to a row

  -- A row with a lower incarnation doesn't stand below one with a higher.
  not_below : (top i : ℕ) → i < top → is_below rows top i ≡ false
  not_below top i low = not_true (is_below rows top i) (λ below. let least : top ≤ i = below_least rows next orderly top i below in let no_way : ⊥ = absurd (omega arith) in no_way)

  -- The line from a row up to one with a higher incarnation is empty.
  nothing_above : (top i : ℕ) (r : Row) → row_of rows i ≡ Some r → i < top → line_up_to rows top i ≡ []
  nothing_above top i r lives low = climb rows next orderly (λ i. i < top → line_up_to rows top i ≡ []) step i r lives low where
    step : (i : ℕ) (r : Row) → row_of rows i ≡ Some r → ((p : ℕ) → r.parent ≡ Some p → p < top → line_up_to rows top p ≡ []) → i < top → line_up_to rows top i ≡ []
    step i r lives up low = by r.parent refl where
      by : (o : Option ℕ) → r.parent ≡ o → line_up_to rows top i ≡ []
      by None e = ap (filter (λ j. is_below rows top j)) (line_first rows next orderly i r lives e) ∙ rw (not_below top i low) refl
      by (Some p) e =
          let lower : p < i = (orderly.parents i p r lives e).0.lower in
          ap (filter (λ j. is_below rows top j)) (line_more rows next orderly i p r lives e) ∙ rw (not_below top i low) (up p e (omega arith))

  -- the line from a row up to itself
  pub path_top : (top : ℕ) (r : Row) → row_of rows top ≡ Some r → line_up_to rows top top ≡ top ∷ []
  path_top top r lives = by r.parent refl where
    by : (o : Option ℕ) → r.parent ≡ o → line_up_to rows top top ≡ top ∷ []
    by None e = ap (filter (λ j. is_below rows top j)) (line_first rows next orderly top r lives e) ∙ rw (below_self rows next orderly top r lives) refl
    by (Some p) e =
        let parent : IsParent rows p top = (orderly.parents top p r lives e).0 in
        ap (filter (λ j. is_below rows top j)) (line_more rows next orderly top p r lives e) ∙ rw (below_self rows next orderly top r lives) (ap (λ l. top ∷ l) (nothing_above top p parent.row parent.lives parent.lower))

  -- from a row whose parent is below the top
  pub path_up : (top i p : ℕ) (r : Row) → row_of rows i ≡ Some r → r.parent ≡ Some p → IsTrue (is_below rows top p) → line_up_to rows top i ≡ i ∷ line_up_to rows top p
  path_up top i p r lives parent below =
      ap (filter (λ j. is_below rows top j)) (line_more rows next orderly i p r lives parent) ∙ rw (below_up rows next orderly top i p r lives parent below) refl

  -- ---- one level more

  -- From a child itself the levels up to its parent are that child's and one more.
  one_more : (p c : ℕ) → IsKid rows p c → IsPath rows p c c
  one_more p c kid =
      let parent : IsParent rows p c = parent_lives rows next orderly p c kid in
      let up : line_up_to rows p c ≡ c ∷ p ∷ [] = path_up p c p kid.row kid.lives kid.parent (below_self rows next orderly p parent.row parent.lives) ∙ ap (λ l. c ∷ l) (path_top p parent.row parent.lives) in
      let own : line_up_to rows c c ≡ c ∷ [] = path_top c kid.row kid.lives in
      record {
        more = λ x free above. let here : IsFree rows c x × Unit {0} = subst (AllFree rows x) own free in subst (AllFree rows x) (sym up) (here.0, (above, tt));
        less = λ x free. let both : IsFree rows c x × (IsFree rows p c × Unit {0}) = subst (AllFree rows x) up free in (subst (AllFree rows x) (sym own) (both.0, tt), both.1.0);
      }

  -- One row further down, the levels up to a parent are those up to its child, and one more.
  further_up : (p c i q : ℕ) (r : Row) → IsKid rows p c → row_of rows i ≡ Some r → r.parent ≡ Some q → IsTrue (is_below rows c q) → IsPath rows p c q → IsPath rows p c i
  further_up p c i q r kid lives parent below path =
      let long : line_up_to rows p i ≡ i ∷ line_up_to rows p q = path_up p i q r lives parent (below_trans rows next orderly p c q (kid_below rows next orderly p c kid) below) in
      let short : line_up_to rows c i ≡ i ∷ line_up_to rows c q = path_up c i q r lives parent below in
      record {
        more = λ x free above. let both : IsFree rows i x × AllFree rows i (line_up_to rows c q) = subst (AllFree rows x) short free in subst (AllFree rows x) (sym long) (both.0, path.more i both.1 above);
        less = λ x free.
            let both : IsFree rows i x × AllFree rows i (line_up_to rows p q) = subst (AllFree rows x) long free in
            let rest : AllFree rows i (line_up_to rows c q) × IsFree rows p c = path.less i both.1 in
            (subst (AllFree rows x) (sym short) (both.0, rest.0), rest.1);
      }

  -- The levels up to a child, with that above it, are those up to its parent, for each row below it.
  pub path : (p c i : ℕ) → IsKid rows p c → IsTrue (is_below rows c i) → IsPath rows p c i
  path p c i kid below =
      let row : (r : Row) × (row_of rows i ≡ Some r) = below_lives rows next orderly c i below in
      climb rows next orderly (λ i. IsTrue (is_below rows c i) → IsPath rows p c i) step i row.0 row.1 below
    where
      step : (i : ℕ) (r : Row) → row_of rows i ≡ Some r → ((q : ℕ) → r.parent ≡ Some q → IsTrue (is_below rows c q) → IsPath rows p c q) → IsTrue (is_below rows c i) → IsPath rows p c i
      step i r lives up below = elim (below_cases rows next orderly c i r lives below) [
        | inl same ↦ subst (IsPath rows p c) (sym same) (one_more p c kid)
        | inr above ↦ further_up p c i above.0 r kid lives above.1 above.2 (up above.0 above.1 above.2)
      ]
