-- The outermost closing row above another.
use Rattle.std.proofs.Common.{◌≡◌, ℕ, zero, suc, List, [], ◌∷◌, Bool, true, false, cond, ◌||◌, Option, Some, None, IsTrue, find, length, reverse, option_and_then, refl, sym, ◌∙◌, ap, subst, inl, inr}
use Rattle.std.specs.Option.{option_map_or, option_or}
use Rattle.std.proofs.lemmas.List.{reverse-append}
use Rattle.std.proofs.lemmas.List.Folds.{find-append}
use Rattle.std.proofs.lemmas.Bool.{or_from, or_parts}
use Rattle.cm_facts.proofs.Options.{cond_none}
use Rattle.cm_world.specs.declared.row.Row.{Row}
use Rattle.cm_world.specs.Rows.{row_of, at_or_above, is_below, is_closing, has_closing, line_from}
use Rattle.cm_world.specs.Sound.{IsOrderly}
use Rattle.cm_world.specs.Stopping.{outermost}
use Rattle.cm_world.proofs.lemmas.trees.Climbing.{some_above-step, line_of-step, above_root, line_root}
use Rattle.cm_world.proofs.lemmas.trees.Finding.{none_some, some_same}
use Rattle.cm_trees.proofs.trees.Trees.{climb, below_self, below_up, below_cases, below_lives, or_left, or_right}

-- the outermost closing row on a way up
abbrev pub outermost_from : List Row → Option ℕ → Option ℕ
outermost_from rows o = find (λ i. has_closing rows i) (reverse (line_from (length rows) rows o))

-- Among one incarnation, the closing one found is it, if its row is closing.
find_one : (rows : List Row) (i : ℕ) (b : Bool) → has_closing rows i ≡ b → find (λ i. has_closing rows i) (i ∷ []) ≡ cond b (Some i) None
find_one rows i b e = rw e refl

-- a row further down comes into question where none above it is closing
top_more : (rows : List Row) (i : ℕ) (line : List ℕ) → find (λ i. has_closing rows i) (reverse (i ∷ line)) ≡ option_or (find (λ i. has_closing rows i) (reverse line)) (cond (has_closing rows i) (Some i) None)
top_more rows i line =
    ap (find (λ i. has_closing rows i)) (reverse-append (i ∷ []) line)
    ∙ find-append (λ i. has_closing rows i) (reverse line) (i ∷ [])
    ∙ ap (option_or (find (λ i. has_closing rows i) (reverse line))) (find_one rows i (has_closing rows i) refl)

-- ---- where no row on the way up is closing

-- Where no row at or above is closing, none is found closing in the line from a row that may live.
missing_row : (n : ℕ) (rows : List Row) (i : ℕ) (o : Option Row) → row_of rows i ≡ o → ((u : Option ℕ) → at_or_above n (λ r. r.closing) rows u ≡ false → find (λ j. has_closing rows j) (reverse (line_from n rows u)) ≡ None) → elim o as (λ _. Bool) [ None ↦ false | Some r ↦ r.closing || at_or_above n (λ q. q.closing) rows r.parent ] ≡ false → find (λ j. has_closing rows j) (reverse (elim o as (λ _. List ℕ) [ None ↦ [] | Some r ↦ i ∷ line_from n rows r.parent ])) ≡ None
missing_row n rows i None here later off = refl
missing_row n rows i (Some r) here later off =
    let both = or_parts r.closing (at_or_above n (λ q. q.closing) rows r.parent) off in
    let own : has_closing rows i ≡ false = ap (λ o. option_map_or (λ q. q.closing) o false) here ∙ both.0 in
    top_more rows i (line_from n rows r.parent)
    ∙ ap (λ o. option_or o (cond (has_closing rows i) (Some i) None)) (later r.parent both.1)
    ∙ ap (λ b. option_or None (cond b (Some i) None)) own

-- Where no row at or above is closing, none is found closing in the line from the top.
missing_from : (n : ℕ) (rows : List Row) (u : Option ℕ) → at_or_above n (λ r. r.closing) rows u ≡ false → find (λ j. has_closing rows j) (reverse (line_from n rows u)) ≡ None
missing_from zero rows u off = refl
missing_from (suc n) rows None off = refl
missing_from (suc n) rows (Some i) off = missing_row n rows i (row_of rows i) refl (λ u. missing_from n rows u) off

-- a loop that is at a row at or above which none is closing has found all
pub goes_no_further : (rows : List Row) (all : Option ℕ) (here : ℕ) (at found : Option ℕ) → at ≡ Some here → is_closing rows here ≡ false → all ≡ option_or (outermost_from rows at) found → found ≡ all
goes_no_further rows all here at found is off so_far =
    sym (so_far ∙ ap (λ o. option_or (outermost_from rows o) found) is ∙ ap (λ o. option_or o found) (missing_from (length rows) rows (Some here) off))

-- an outermost closing row is its own, and the row stands below it
pub record IsTop (rows : List Row) (top i : ℕ) : Type 0 where
  pub own : outermost rows top ≡ Some top
  pub below : IsTrue (is_below rows top i)

module _ (rows : List Row) (next : ℕ) (orderly : IsOrderly rows next) where
  -- The outermost closing row of a row is that above it, else the row itself if it is closing.
  top_step : (i : ℕ) (r : Row) → row_of rows i ≡ Some r → outermost rows i ≡ option_or (outermost_from rows r.parent) (cond (has_closing rows i) (Some i) None)
  top_step i r lives = ap (λ l. find (λ i. has_closing rows i) (reverse l)) (line_of-step rows next i r orderly lives) ∙ top_more rows i (line_from (length rows) rows r.parent)

  -- Above no row there is no outermost closing one.
  none_from : outermost_from rows None ≡ None
  none_from = ap (λ l. find (λ i. has_closing rows i) (reverse l)) (line_root (length rows) rows)

  -- The line up from an incarnation without a row is empty.
  line_none : (n : ℕ) (i : ℕ) → row_of rows i ≡ None → line_from n rows (Some i) ≡ []
  line_none zero i none = refl
  line_none (suc n) i none = rw (none, line_from) refl

  -- An incarnation without a row has no outermost closing row.
  top_none : (i : ℕ) → row_of rows i ≡ None → outermost rows i ≡ None
  top_none i none = ap (λ l. find (λ i. has_closing rows i) (reverse l)) (line_none (length rows) i none)

  -- ---- the way up

  -- The first of three that may be there is the first, else one told by a test, else the third.
  or_or : (a c : Option ℕ) (b : Bool) (i : ℕ) → option_or (option_or a (cond b (Some i) None)) c ≡ option_or a (cond b (Some i) c)
  or_or None c true i = refl
  or_or None c false i = refl
  or_or (Some x) c b i = refl

  -- The outermost closing row or else a given one is found by a step at the row that may live.
  step_by : (i : ℕ) (o : Option Row) (found : Option ℕ) → row_of rows i ≡ o → option_or (outermost rows i) found ≡ option_or (outermost_from rows (option_and_then (λ r. r.parent) o)) (cond (option_map_or (λ r. r.closing) o false) (Some i) found)
  step_by i None found e = ap (λ o. option_or o found) (top_none i e) ∙ sym (ap (λ o. option_or o found) none_from)
  step_by i (Some r) found e =
      ap (λ o. option_or o found) (top_step i r e)
      ∙ or_or (outermost_from rows r.parent) found (has_closing rows i) i
      ∙ ap (λ b. option_or (outermost_from rows r.parent) (cond b (Some i) found)) (ap (λ o. option_map_or (λ r. r.closing) o false) e)

  -- a loop that is at a row goes on at its parent
  pub goes_up : (all : Option ℕ) (here : ℕ) (at above found more : Option ℕ) → at ≡ Some here → above ≡ option_and_then (λ r. r.parent) (row_of rows here) → more ≡ cond (has_closing rows here) (Some here) found → all ≡ option_or (outermost_from rows at) found → all ≡ option_or (outermost_from rows above) more
  goes_up all here at above found more is up closing so_far =
      so_far
      ∙ ap (λ o. option_or (outermost_from rows o) found) is
      ∙ step_by here (row_of rows here) found refl
      ∙ sym (ap (λ o. option_or (outermost_from rows o) (cond (has_closing rows here) (Some here) found)) up)
      ∙ sym (ap (option_or (outermost_from rows above)) closing)

  -- ---- what it says

  -- The outermost closing row of a row is the top above it, or else the row itself.
  here_or_above : (i : ℕ) (r : Row) (top : ℕ) (above : Option ℕ) (b : Bool) → row_of rows i ≡ Some r → outermost rows i ≡ Some top → option_or above (cond b (Some i) None) ≡ Some top → (above ≡ Some top → IsTop rows top i) → IsTop rows top i
  here_or_above i r top (Some t) b lives all e up = up e
  here_or_above i r top None true lives all e up =
      let same : i ≡ top = some_same i top e in
      subst (λ t. IsTop rows t i) same (record { own = all ∙ sym (ap Some same); below = below_self rows next orderly i r lives })
  here_or_above i r top None false lives all e up = absurd (none_some top e)

  -- The outermost closing row above a row's parent is the top of the row.
  parent_top : (i top : ℕ) (r : Row) (o : Option ℕ) → row_of rows i ≡ Some r → r.parent ≡ o → ((p : ℕ) → r.parent ≡ Some p → outermost rows p ≡ Some top → IsTop rows top p) → outermost_from rows o ≡ Some top → IsTop rows top i
  parent_top i top r None lives parent up e = absurd (none_some top (sym none_from ∙ e))
  parent_top i top r (Some p) lives parent up e =
      let is : IsTop rows top p = up p parent e in
      record { own = is.own; below = below_up rows next orderly top i p r lives parent is.below }

  -- An incarnation with an outermost closing row has a row.
  lives_top : (i top : ℕ) (o : Option Row) → row_of rows i ≡ o → outermost rows i ≡ Some top → (r : Row) × (row_of rows i ≡ Some r)
  lives_top i top None e all = absurd (none_some top (sym (top_none i e) ∙ all))
  lives_top i top (Some r) e all = (r, e)

  -- An outermost closing row is its own, and the row that has it stands below it.
  pub top_of : (i top : ℕ) → outermost rows i ≡ Some top → IsTop rows top i
  top_of i top all =
      let row : (r : Row) × (row_of rows i ≡ Some r) = lives_top i top (row_of rows i) refl all in
      climb rows next orderly (λ i. outermost rows i ≡ Some top → IsTop rows top i) step i row.0 row.1 all
    where
      step : (i : ℕ) (r : Row) → row_of rows i ≡ Some r → ((p : ℕ) → r.parent ≡ Some p → outermost rows p ≡ Some top → IsTop rows top p) → outermost rows i ≡ Some top → IsTop rows top i
      step i r lives up all =
          here_or_above i r top (outermost_from rows r.parent) (has_closing rows i) lives all (sym (top_step i r lives) ∙ all) (λ e. parent_top i top r r.parent lives refl up e)

  -- all rows below an outermost closing row have that one
  pub top_below : (top i : ℕ) → outermost rows top ≡ Some top → IsTrue (is_below rows top i) → outermost rows i ≡ Some top
  top_below top i own below =
      let row : (r : Row) × (row_of rows i ≡ Some r) = below_lives rows next orderly top i below in
      climb rows next orderly (λ i. IsTrue (is_below rows top i) → outermost rows i ≡ Some top) step i row.0 row.1 below
    where
      step : (i : ℕ) (r : Row) → row_of rows i ≡ Some r → ((p : ℕ) → r.parent ≡ Some p → IsTrue (is_below rows top p) → outermost rows p ≡ Some top) → IsTrue (is_below rows top i) → outermost rows i ≡ Some top
      step i r lives up below = elim (below_cases rows next orderly top i r lives below) [
        | inl same ↦ ap (outermost rows) same ∙ own ∙ refl
        | inr above ↦
            top_step i r lives
            ∙ ap (λ o. option_or (outermost_from rows o) (cond (has_closing rows i) (Some i) None)) above.1
            ∙ ap (λ o. option_or o (cond (has_closing rows i) (Some i) None)) (up above.0 above.1 above.2)
      ]

  -- Where neither of two is there, the first isn't and the second isn't.
  or_nothing : (a b : Option ℕ) → option_or a b ≡ None → (a ≡ None) × (b ≡ None)
  or_nothing None b e = (refl, e)
  or_nothing (Some x) b e = absurd (none_some x (sym e))

  -- Where no closing row is outermost above a row, none at or above its parent is closing.
  above_false : (r : Row) (o : Option ℕ) → r.parent ≡ o → ((p : ℕ) → r.parent ≡ Some p → outermost rows p ≡ None → is_closing rows p ≡ false) → outermost_from rows o ≡ None → at_or_above (length rows) (λ r. r.closing) rows o ≡ false
  above_false r None parent up e = above_root (length rows) (λ r. r.closing) rows
  above_false r (Some p) parent up e = up p parent e

  -- At or above an incarnation without a row no row is closing.
  nothing_closing : (n : ℕ) (i : ℕ) → row_of rows i ≡ None → at_or_above n (λ r. r.closing) rows (Some i) ≡ false
  nothing_closing zero i none = refl
  nothing_closing (suc n) i none = rw (none, at_or_above) refl

  -- An incarnation without an outermost closing row isn't closing, where its row may live.
  closing_by : (i : ℕ) (o : Option Row) → row_of rows i ≡ o → outermost rows i ≡ None → is_closing rows i ≡ false
  closing_by i None e none = nothing_closing (length rows) i e
  closing_by i (Some r) e none =
      climb rows next orderly (λ i. outermost rows i ≡ None → is_closing rows i ≡ false) step i r e none
    where
      step : (i : ℕ) (r : Row) → row_of rows i ≡ Some r → ((p : ℕ) → r.parent ≡ Some p → outermost rows p ≡ None → is_closing rows p ≡ false) → outermost rows i ≡ None → is_closing rows i ≡ false
      step i r lives up none =
          let parts : (outermost_from rows r.parent ≡ None) × (cond (has_closing rows i) (Some i) None ≡ None) = or_nothing (outermost_from rows r.parent) (cond (has_closing rows i) (Some i) None) (sym (top_step i r lives) ∙ none) in
          some_above-step (λ r. r.closing) rows next i r orderly lives
          ∙ or_from r.closing (at_or_above (length rows) (λ r. r.closing) rows r.parent) (sym (ap (λ o. option_map_or (λ r. r.closing) o false) lives) ∙ cond_none (has_closing rows i) i parts.1) (above_false r r.parent refl up parts.0)

  -- where there is none, the row isn't closing
  pub no_top : (i : ℕ) → outermost rows i ≡ None → is_closing rows i ≡ false
  no_top i none = closing_by i (row_of rows i) refl none

  -- a row with an outermost closing one lives
  pub top_lives : (i top : ℕ) → outermost rows i ≡ Some top → (r : Row) × (row_of rows i ≡ Some r)
  top_lives i top all = lives_top i top (row_of rows i) refl all

  -- a row at or below a closing one is closing
  pub closing_below : (top i : ℕ) → has_closing rows top ≡ true → IsTrue (is_below rows top i) → IsTrue (is_closing rows i)
  closing_below top i closing below =
      let row : (r : Row) × (row_of rows i ≡ Some r) = below_lives rows next orderly top i below in
      climb rows next orderly (λ i. IsTrue (is_below rows top i) → IsTrue (is_closing rows i)) step i row.0 row.1 below
    where
      step : (i : ℕ) (r : Row) → row_of rows i ≡ Some r → ((p : ℕ) → r.parent ≡ Some p → IsTrue (is_below rows top p) → IsTrue (is_closing rows p)) → IsTrue (is_below rows top i) → IsTrue (is_closing rows i)
      step i r lives up below = elim (below_cases rows next orderly top i r lives below) [
        | inl same ↦
            some_above-step (λ r. r.closing) rows next i r orderly lives
            ∙ or_left r.closing (at_or_above (length rows) (λ r. r.closing) rows r.parent)
            (sym (ap (λ o. option_map_or (λ r. r.closing) o false) lives) ∙ ap (has_closing rows) same ∙ closing)
        | inr above ↦
            some_above-step (λ r. r.closing) rows next i r orderly lives
            ∙ or_right r.closing (at_or_above (length rows) (λ r. r.closing) rows r.parent)
            (ap (at_or_above (length rows) (λ r. r.closing) rows) above.1 ∙ up above.0 above.1 above.2)
      ]
