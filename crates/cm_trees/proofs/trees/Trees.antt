-- Up and down an orderly tree.
use Rattle.std.proofs.Common.{◌≡◌, ℕ, zero, suc, ◌+◌, ◌<◌, ◌≤◌, List, [], ◌∷◌, Bool, true, false, not, ◌&&◌, ◌||◌, ◌==◌, nat_eq, true≢false, Option, Some, None, IsTrue, find, filter, length, refl, sym, ◌∙◌, ap, subst, inl, inr, ◌⊎◌, arith}
use Rattle.std.specs.List.{list_all}
use Rattle.std.specs.Option.{option_eq}
use Rattle.std.specs.Cmp.{unsigned_Decides}
use Rattle.cm_facts.proofs.Booleans.{not_or}
pub use Rattle.std.proofs.lemmas.Bool.{or_left, or_right, and_from as and_pair, false_from_ne_true as not_true, not_from_false as not_flip}
use Rattle.cm_decl.proofs.lemmas.Sameness.{never}
use Rattle.cm_world.specs.declared.row.Row.{Row}
use Rattle.cm_world.specs.Rows.{row_of, is_below, is_subtree_shut, line_from, line_of}
use Rattle.cm_world.specs.Sound.{IncarnationsIncrease, IsOrderly, IsParent}
use Rattle.cm_trees.specs.Kids.{IsKid}
use Rattle.cm_world.proofs.lemmas.trees.Climbing.{line_of-step, line_root}
use Rattle.cm_world.proofs.lemmas.trees.Finding.{row_of-inc, find-all, find-passes}
use Rattle.cm_world.proofs.lemmas.trees.Walks.{find-lives, below_next}
use Rattle.cm_trees.proofs.trees.Standing as standing

-- ---- tests

-- A number that may be missing, and is this one, passes the test for it.
pub eq_some : (o : Option ℕ) (p : ℕ) → o ≡ Some p → IsTrue (option_eq nat_eq o (Some p))
eq_some o p e = subst (λ z. IsTrue (option_eq nat_eq z (Some p))) (sym e) ((unsigned_Decides p p).1 refl)

-- ---- rows of a list

-- Where no row fails a test, all pass it.
all_of_none : (q : Row → Bool) (xs : List Row) → ((r : Row) → find (λ x. not (q x)) xs ≡ Some r → ⊥) → IsTrue (list_all q xs)
all_of_none q [] none = refl
all_of_none q (r ∷ rs) none = by (q r) refl (λ none_else. all_of_none q rs none_else) where
  by : (t : Bool) → q r ≡ t → (((s : Row) → find (λ x. not (q x)) rs ≡ Some s → ⊥) → IsTrue (list_all q rs)) → IsTrue (list_all q (r ∷ rs))
  by true e more = and_pair (q r) (list_all q rs) e (more (λ s found. none s (rw e found)))
  by false e more = absurd (none r (rw e refl))

-- what each row that lives passes, all rows pass
pub all_rows : (rows : List Row) (next : ℕ) (q : Row → Bool) → IncarnationsIncrease next rows → ((i : ℕ) (r : Row) → row_of rows i ≡ Some r → IsTrue (q r)) → IsTrue (list_all q rows)
all_rows rows next q increasing each =
    all_of_none q rows (λ r found. true≢false (sym (find-passes (λ x. not (q x)) rows r found) ∙ ap not (each r.inc r (find-lives (λ x. not (q x)) rows next r increasing found))))

-- All items left by a test pass another exactly where each item fails the first or passes the other.
all_filter : (p q : Row → Bool) (xs : List Row) → list_all q (filter p xs) ≡ list_all (λ r. not (p r) || q r) xs
all_filter p q [] = refl
all_filter p q (r ∷ rs) = by (p r) refl (all_filter p q rs) where
  by : (t : Bool) → p r ≡ t → list_all q (filter p rs) ≡ list_all (λ r. not (p r) || q r) rs → list_all q (filter p (r ∷ rs)) ≡ list_all (λ r. not (p r) || q r) (r ∷ rs)
  by true e more = rw e (ap (λ b. q r && b) more)
  by false e more = rw e more

module _ (rows : List Row) (next : ℕ) (orderly : IsOrderly rows next) where
  -- ---- up the tree

  -- What holds of a row where it holds of its parent holds of each row below a bound.
  climb_to : (n : ℕ) (P : ℕ → Type 0) → ((i : ℕ) (r : Row) → row_of rows i ≡ Some r → ((p : ℕ) → r.parent ≡ Some p → P p) → P i) → (i : ℕ) (r : Row) → row_of rows i ≡ Some r → i < n → P i
  climb_to zero P step i r lives low = absurd (omega arith)
  climb_to (suc n) P step i r lives low =
      step i r lives (λ p below. let parent : IsParent rows p i = (orderly.parents i p r lives below).0 in
      let lower : p < i = parent.lower in
      climb_to n P step p parent.row parent.lives (omega arith))

  -- what holds of a row where it holds of its parent holds of every row
  pub climb : (P : ℕ → Type 0) → ((i : ℕ) (r : Row) → row_of rows i ≡ Some r → ((p : ℕ) → r.parent ≡ Some p → P p) → P i) → (i : ℕ) (r : Row) → row_of rows i ≡ Some r → P i
  climb P step i r lives = climb_to (i + 1) P step i r lives (omega arith)

  -- the line of the root, and that of any other row
  pub line_first : (i : ℕ) (r : Row) → row_of rows i ≡ Some r → r.parent ≡ None → line_of rows i ≡ i ∷ []
  line_first i r lives top = line_of-step rows next i r orderly lives ∙ ap (λ o. i ∷ line_from (length rows) rows o) top ∙ ap (λ l. i ∷ l) (line_root (length rows) rows)

  -- The line up from a row is that row, and then the line up from its parent.
  pub line_more : (i p : ℕ) (r : Row) → row_of rows i ≡ Some r → r.parent ≡ Some p → line_of rows i ≡ i ∷ line_of rows p
  line_more i p r lives below = line_of-step rows next i r orderly lives ∙ ap (λ o. i ∷ line_from (length rows) rows o) below

  -- ---- what stands below what

  -- A row that stands below another one lives.
  pub below_lives : (top i : ℕ) → IsTrue (is_below rows top i) → (r : Row) × (row_of rows i ≡ Some r)
  below_lives top i = standing.below_lives rows top i

  -- A row that lives stands below itself.
  pub below_self : (i : ℕ) (r : Row) → row_of rows i ≡ Some r → IsTrue (is_below rows i i)
  below_self i r = standing.below_self rows next i r orderly

  -- A row stands below what its parent stands below.
  pub below_up : (top i p : ℕ) (r : Row) → row_of rows i ≡ Some r → r.parent ≡ Some p → IsTrue (is_below rows top p) → IsTrue (is_below rows top i)
  below_up top i p r = standing.below_parent rows next top i p r orderly

  -- a row below another is that one, or its parent is below it
  pub below_cases : (top i : ℕ) (r : Row) → row_of rows i ≡ Some r → IsTrue (is_below rows top i) → (i ≡ top) ⊎ ((p : ℕ) × (r.parent ≡ Some p) × IsTrue (is_below rows top p))
  below_cases top i r = standing.below_cases rows next top i r orderly

  -- what stands below a row has no lower incarnation
  pub below_least : (top i : ℕ) → IsTrue (is_below rows top i) → top ≤ i
  below_least top i below =
      let row : (r : Row) × (row_of rows i ≡ Some r) = below_lives top i below in
      climb (λ i. IsTrue (is_below rows top i) → top ≤ i) step i row.0 row.1 below
    where
      step : (i : ℕ) (r : Row) → row_of rows i ≡ Some r → ((p : ℕ) → r.parent ≡ Some p → IsTrue (is_below rows top p) → top ≤ p) → IsTrue (is_below rows top i) → top ≤ i
      step i r lives up below = elim (below_cases top i r lives below) [
        | inl same ↦ omega arith
        | inr above ↦
            let lower : above.0 < i = (orderly.parents i above.0 r lives above.1).0.lower in
            let least : top ≤ above.0 = up above.0 above.1 above.2 in
            omega arith
      ]

  -- below a row that is below another
  pub below_trans : (a b i : ℕ) → IsTrue (is_below rows a b) → IsTrue (is_below rows b i) → IsTrue (is_below rows a i)
  below_trans a b i upper below =
      let row : (r : Row) × (row_of rows i ≡ Some r) = below_lives b i below in
      climb (λ i. IsTrue (is_below rows b i) → IsTrue (is_below rows a i)) step i row.0 row.1 below
    where
      step : (i : ℕ) (r : Row) → row_of rows i ≡ Some r → ((p : ℕ) → r.parent ≡ Some p → IsTrue (is_below rows b p) → IsTrue (is_below rows a p)) → IsTrue (is_below rows b i) → IsTrue (is_below rows a i)
      step i r lives up below = elim (below_cases b i r lives below) [
        | inl same ↦ subst (λ z. IsTrue (is_below rows a z)) (sym same) upper
        | inr above ↦ below_up a i above.0 r lives above.1 (up above.0 above.1 above.2)
      ]

  -- ---- children

  -- a row below another is that one, or below one of its children
  pub below_kid : (p i : ℕ) → IsTrue (is_below rows p i) → (i ≡ p) ⊎ ((c : ℕ) × IsKid rows p c × IsTrue (is_below rows c i))
  below_kid p i below =
      let row : (r : Row) × (row_of rows i ≡ Some r) = below_lives p i below in
      climb (λ i. IsTrue (is_below rows p i) → (i ≡ p) ⊎ ((c : ℕ) × IsKid rows p c × IsTrue (is_below rows c i))) step i row.0 row.1 below
    where
      step : (i : ℕ) (r : Row) → row_of rows i ≡ Some r → ((q : ℕ) → r.parent ≡ Some q → IsTrue (is_below rows p q) → (q ≡ p) ⊎ ((c : ℕ) × IsKid rows p c × IsTrue (is_below rows c q))) → IsTrue (is_below rows p i) → (i ≡ p) ⊎ ((c : ℕ) × IsKid rows p c × IsTrue (is_below rows c i))
      step i r lives up below = elim (below_cases p i r lives below) [
        | inl same ↦ inl same
        | inr above ↦ (elim (up above.0 above.1 above.2) [
          | inl own ↦ inr (i, record { row = r; lives = lives; parent = above.1 ∙ ap Some own }, below_self i r lives)
          | inr kid ↦ inr (kid.0, kid.1, below_up kid.0 i above.0 r lives above.1 kid.2)
        ])
      ]

  -- A child has a higher incarnation than its parent.
  pub kid_higher : (p c : ℕ) → IsKid rows p c → p < c
  kid_higher p c kid = (orderly.parents c p kid.row kid.lives kid.parent).0.lower

  -- A child has a lower incarnation than the next one.
  pub kid_within : (p c : ℕ) → IsKid rows p c → c < next
  kid_within p c kid = below_next rows next c kid.row orderly.increasing kid.lives

  -- The parent of a child row lives, is resolved, and has a lower incarnation.
  pub parent_lives : (p c : ℕ) → IsKid rows p c → IsParent rows p c
  parent_lives p c kid = (orderly.parents c p kid.row kid.lives kid.parent).0

  -- A child stands below its parent.
  pub kid_below : (p c : ℕ) → IsKid rows p c → IsTrue (is_below rows p c)
  kid_below p c kid =
      let parent : IsParent rows p c = parent_lives p c kid in
      below_up p c p kid.row kid.lives kid.parent (below_self p parent.row parent.lives)

  -- ---- what is shut with all below it

  -- All at and below a row is shut exactly where each row isn't below it or is shut.
  shut_test : (top : ℕ) → is_subtree_shut rows top ≡ list_all (λ r. not (is_below rows top r.inc) || r.shut) rows
  shut_test top = all_filter (λ r. is_below rows top r.inc) (λ r. r.shut) rows

  -- Where something implies another thing and holds, so does that.
  second : (p q : Bool) → IsTrue (not p || q) → IsTrue p → IsTrue q
  second true q h g = h
  second false q h g = never g

  -- where all below a row is shut, each row there is
  pub shut_each : (top i : ℕ) (r : Row) → IsTrue (is_subtree_shut rows top) → row_of rows i ≡ Some r → IsTrue (is_below rows top i) → IsTrue r.shut
  shut_each top i r all lives below =
      let passes : IsTrue (not (is_below rows top r.inc) || r.shut) = find-all (λ s. s.inc == i) (λ r. not (is_below rows top r.inc) || r.shut) rows r (sym (shut_test top) ∙ all) lives in
      second (is_below rows top r.inc) r.shut passes (subst (λ z. IsTrue (is_below rows top z)) (sym (row_of-inc rows i r lives)) below)

  -- Where each living row that stands below one is shut, all of its subtree is.
  pub shut_all : (top : ℕ) → ((i : ℕ) (r : Row) → row_of rows i ≡ Some r → IsTrue (is_below rows top i) → IsTrue r.shut) → IsTrue (is_subtree_shut rows top)
  shut_all top each =
      shut_test top ∙ all_rows rows next (λ r. not (is_below rows top r.inc) || r.shut) orderly.increasing
      (λ i r lives. not_or (is_below rows top r.inc) r.shut (λ below. each i r lives (subst (λ z. IsTrue (is_below rows top z)) (row_of-inc rows i r lives) below)))
