-- What a pick answers.
use Rattle.std.proofs.Common.{◌≡◌, ℕ, List, Bool, true, false, cond, not, ◌&&◌, Option, Some, None, IsTrue, is_none, is_some, option_map, option_and_then, refl, sym, ◌∙◌, ap, subst, inl, inr}
use Rattle.std.specs.Option.{option_map_or}
use Rattle.std.proofs.lemmas.Bool.{not-true, or_cases}
use Rattle.cm_decl.proofs.lemmas.Sameness.{never}
use Rattle.cm_facts.proofs.Booleans.{true_and_false}
use Rattle.cm_world.specs.declared.row.Row.{Row}
use Rattle.cm_world.specs.declared.action.ActKind.{ActKind}
use Rattle.cm_world.specs.declared.view.Facts.{Facts}
use Rattle.cm_world.specs.Rows.{row_of, is_live, is_below, is_closing, is_subtree_shut}
use Rattle.cm_world.specs.RowsInside.{facts_of}
use Rattle.cm_world.specs.Sound.{IsSound}
use Rattle.cm_world.specs.Stopping.{outermost, CanPick}
use Rattle.cm_world.specs.Step.{may_close}
use Rattle.cm_world.proofs.lemmas.trees.Finding.{none_some, some_same}
use Rattle.cm_order.specs.declared.search.SearchGoal.TheVariants.{Idle, Pending}
use Rattle.cm_order.specs.Search.{IsFound, NoneIs}
use Rattle.cm_order.specs.Picking.{PicksNow, PickWaitsFor, IsPicked}
use Rattle.cm_order.specs.Plans.{IsLowest}
use Rattle.cm_order.specs.declared.picking.Picked.TheVariants.{StopNow, ShutNow}
use Rattle.cm_trees.proofs.trees.Trees.{climb, below_lives, below_cases, below_trans, shut_each, shut_all, not_true}
use Rattle.cm_trees.proofs.trees.Tops.{IsTop, top_of, top_below, top_lives, no_top}
use Rattle.cm_trees.proofs.trees.Ending.{CanUnder, shut_or_can}
use Rattle.cm_order.proofs.lemmas.levels.Glancing.{here_last}
use Rattle.cm_order.proofs.lemmas.searches.Going.{at_found}
use Rattle.cm_order.proofs.lemmas.searches.Reaching.{at_reached}

module _ (rows : List Row) (next : ℕ) (sound : IsSound rows next) where
  -- ---- nothing to be done

  -- A row that has one at or below it lives.
  top_there : (top i : ℕ) → IsTrue (is_below rows top i) → IsTrue (is_live rows top)
  top_there top i below =
      let row : (r : Row) × (row_of rows i ≡ Some r) = below_lives rows next sound.orderly top i below in
      climb rows next sound.orderly (λ i. IsTrue (is_below rows top i) → IsTrue (is_live rows top)) step i row.0 row.1 below
    where
      step : (i : ℕ) (r : Row) → row_of rows i ≡ Some r → ((p : ℕ) → r.parent ≡ Some p → IsTrue (is_below rows top p) → IsTrue (is_live rows top)) → IsTrue (is_below rows top i) → IsTrue (is_live rows top)
      step i r lives up below = elim (below_cases rows next sound.orderly top i r lives below) [
        | inl same ↦ subst (λ z. IsTrue (is_live rows z)) same (ap is_some lives)
        | inr above ↦ up above.0 above.1 above.2
      ]

  -- What doesn't live has its whole subtree shut.
  gone_shut : (t : ℕ) → is_live rows t ≡ false → IsTrue (is_subtree_shut rows t)
  gone_shut t gone = shut_all rows next sound.orderly t (λ i r lives below. true_and_false (is_live rows t) (top_there t i below) gone)

  -- Where no facts are told there is no row.
  none_told : (o : Option Row) → None ≡ option_map facts_of o → is_some o ≡ false
  none_told None told = refl
  none_told (Some r) told = absurd (none_some (facts_of r) told)

  -- a target of which no facts are told is all shut
  pub untold_shut : (t : ℕ) → None ≡ option_map facts_of (row_of rows t) → IsTrue (is_subtree_shut rows t)
  untold_shut t told = gone_shut t (none_told (row_of rows t) told)

  -- a target that lives and has no closing row above it is none
  pub none_left : (t : ℕ) → IsTrue (may_close rows t) → outermost rows t ≡ None → IsTrue (is_subtree_shut rows t)
  none_left t may none = elim (or_cases (not (is_live rows t)) (is_closing rows t) may) [
    | inl gone ↦ gone_shut t (not-true (is_live rows t) gone)
    | inr closing ↦ true_and_false (is_closing rows t) closing (no_top rows next sound.orderly t none)
  ]

  -- the outermost closing row is its own
  pub own_top : (t top : ℕ) → outermost rows t ≡ Some top → outermost rows top ≡ Some top
  own_top t top all = let is : IsTop rows top t = top_of rows next sound.orderly t top all in is.own

  -- ---- the end of a way

  -- Where the test that there is none holds, there is none.
  none_there : {A : Type 0} (o : Option A) → IsTrue (is_none o) → o ≡ None
  none_there None none = refl
  none_there (Some x) none = never none

  -- A row whose facts are told has these.
  told_row : (y : ℕ) (f : Facts) (o : Option Row) → row_of rows y ≡ o → Some f ≡ option_map facts_of o → (r : Row) × (row_of rows y ≡ Some r) × (facts_of r ≡ f)
  told_row y f None e told = absurd (none_some f (sym told))
  told_row y f (Some r) e told = (r, e, sym (some_same f (facts_of r) told))

  -- A row that is picked is told by whether it is on.
  picked_as : (t y : ℕ) (b : Bool) → PicksNow rows t y b → IsPicked rows t (cond b (StopNow y) (ShutNow y))
  picked_as t y true picks = picks
  picked_as t y false picks = picks

  -- Below an outermost top an idle row that may stop is one that a pick may choose.
  picks_found : (top y : ℕ) (r : Row) (b : Bool) → outermost rows top ≡ Some top → row_of rows y ≡ Some r → r.on ≡ b → IsFound rows top Idle y → PicksNow rows top y b
  picks_found top y r b own lives on found =
      let same : found.row ≡ r = some_same found.row r (sym found.may.lives ∙ lives) in
      record {
        undone = not_true (is_subtree_shut rows top) (λ all. true_and_false found.row.shut (shut_each rows next sound.orderly top y found.row all found.may.lives found.may.below) found.may.unshut);
        row = found.row;
        may = record {
          row = found.may.lives;
          top = top;
          outermost = own;
          below = found.may.below;
          unshut = found.may.unshut;
          idle = none_there found.row.pending found.may.fits;
          may_stop = found.may.may_stop;
        };
        state = ap (λ q. q.on) same ∙ on;
      }

  -- a pick that goes on at the end of a way, below which all is shut, and which is idle
  pub picked_lowest : (top y : ℕ) (f : Facts) → outermost rows top ≡ Some top → IsLowest rows top y → Some f ≡ option_map facts_of (row_of rows y) → IsTrue (not f.shut && is_none f.pending) → IsPicked rows top (cond f.on (StopNow y) (ShutNow y))
  picked_lowest top y f own is told idle =
      let row : (r : Row) × (row_of rows y ≡ Some r) × (facts_of r ≡ f) = told_row y f (row_of rows y) refl told in
      let fits : IsTrue (option_map_or (λ r. not r.shut && is_none r.pending) (row_of rows y) false) =
      ap (λ o. option_map_or (λ r. not r.shut && is_none r.pending) o false) row.1 ∙ ap (λ g. not g.shut && is_none g.pending) row.2 ∙ idle in
      let found : IsFound rows top Idle y =
      at_found rows next sound.orderly top y (Some y) own refl (at_reached rows next sound.orderly top own y is.reached) (here_last rows next sound y fits is.below) in
      picked_as top y f.on (picks_found top y row.0 f.on own row.1 (ap (λ g. g.on) row.2) found)

  -- ---- what is waited for

  -- Where no idle row may be picked below the outermost closing row, a pick has no row to choose.
  none_picks : (t top : ℕ) → outermost rows t ≡ Some top → NoneIs rows top Idle → CanPick rows t → ⊥
  none_picks t top all none can =
      let same : can.may.top ≡ top = some_same can.may.top top (sym can.may.outermost ∙ all) in
      none can.inc can.row (record {
        lives = can.may.row;
        below = subst (λ z. IsTrue (is_below rows z can.inc)) same can.may.below;
        unshut = can.may.unshut;
        fits = ap is_none can.may.idle;
        may_stop = can.may.may_stop;
      })

  -- Where the number of what is pending is told, it is pending with some kind.
  pending_by : (y a : ℕ) (o : Option (ActKind × ℕ)) → Some a ≡ option_map (λ p. p.1) o → (kind : ActKind) × (o ≡ Some (kind, a))
  pending_by y a None e = absurd (none_some a (sym e))
  pending_by y a (Some (kind, b)) e = (kind, ap (λ n. Some (kind, n)) (sym (some_same a b e)))

  -- Where no idle row may stop, but a pending one could, a pick waits for the action of that one.
  pub waits_found : (t top y a : ℕ) → outermost rows t ≡ Some top → is_subtree_shut rows t ≡ false → NoneIs rows top Idle → IsFound rows top Pending y → Some a ≡ option_map (λ p. p.1) (option_and_then (λ r. r.pending) (row_of rows y)) → PickWaitsFor rows t a
  waits_found t top y a all undone none found is =
      let pending : (kind : ActKind) × (found.row.pending ≡ Some (kind, a)) = pending_by y a found.row.pending (is ∙ ap (λ o. option_map (λ p. p.1) (option_and_then (λ r. r.pending) o)) found.may.lives) in
      record {
        undone = undone;
        stuck = none_picks t top all none;
        blocked = record {
          inc = y;
          row = found.row;
          lives = found.may.lives;
          top = top;
          outermost = all;
          below = found.may.below;
          unshut = found.may.unshut;
          kind = pending.0;
          pending = pending.1;
          may_stop = found.may.may_stop;
        };
      }

  -- Where some row at or below the top can stop, there is an idle one or a pending one.
  either_wanted : (top : ℕ) → outermost rows top ≡ Some top → (can : CanUnder rows top) (o : Option (ActKind × ℕ)) → can.row.pending ≡ o → NoneIs rows top Idle → NoneIs rows top Pending → ⊥
  either_wanted top own can None e none other = none can.inc can.row (record {
    lives = can.lives;
    below = can.below;
    unshut = can.unshut;
    fits = ap is_none e;
    may_stop = record { top = top; outermost = top_below rows next sound.orderly top can.inc own can.below; free = can.free };
  })
  either_wanted top own can (Some a) e none other = other can.inc can.row (record {
    lives = can.lives;
    below = can.below;
    unshut = can.unshut;
    fits = ap is_some e;
    may_stop = record { top = top; outermost = top_below rows next sound.orderly top can.inc own can.below; free = can.free };
  })

  -- Where the subtree of the outermost closing row is shut, so is that of each row below it.
  whole_shut : (t top : ℕ) → IsTop rows top t → IsTrue (is_subtree_shut rows top) → IsTrue (is_subtree_shut rows t)
  whole_shut t top is shut = shut_all rows next sound.orderly t (λ i r lives below. shut_each rows next sound.orderly top i r shut lives (below_trans rows next sound.orderly top t i is.below below))

  -- one of both is found
  pub one_is_found : (t top : ℕ) → outermost rows t ≡ Some top → is_subtree_shut rows t ≡ false → NoneIs rows top Idle → NoneIs rows top Pending → ⊥
  one_is_found t top all undone none other =
      let is : IsTop rows top t = top_of rows next sound.orderly t top all in
      let row : (r : Row) × (row_of rows top ≡ Some r) = top_lives rows next sound.orderly top top is.own in
      elim (shut_or_can rows next sound top row.0 row.1) [
        | inl can ↦ either_wanted top is.own can can.row.pending refl none other
        | inr shut ↦ true_and_false (is_subtree_shut rows t) (whole_shut t top is shut) undone
      ]
