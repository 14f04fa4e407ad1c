-- The way down by quick looks.
use Rattle.std.proofs.Common.{◌≡◌, ℕ, ◌-◌, ◌<◌, List, Option, Some, None, sym, ◌∙◌, subst, arith}
use Rattle.cm_world.specs.declared.row.Row.{Row}
use Rattle.cm_world.specs.Rows.{row_of}
use Rattle.cm_world.specs.Sound.{IsOrderly}
use Rattle.cm_world.specs.Stopping.{line_up_to, AllFree, outermost}
use Rattle.cm_world.proofs.lemmas.trees.Walks.{below_next}
use Rattle.cm_order.specs.declared.search.SearchGoal.TheVariants.{Idle}
use Rattle.cm_order.specs.Search.{IsHere, IsFound}
use Rattle.cm_order.specs.Glances.{IsChosen}
use Rattle.cm_trees.proofs.trees.Trees.{below_lives, below_self, kid_higher, kid_within}
use Rattle.cm_trees.proofs.trees.Tops.{top_below}
use Rattle.cm_order.proofs.lemmas.searches.Turns.{under}
use Rattle.cm_trees.proofs.trees.Paths.{path_top}
use Rattle.cm_order.proofs.lemmas.searches.Searching.{IsOpen, open_kid, searching_first, row_unshut}

-- all levels from here up to the top are free
abbrev pub IsAt : List Row → ℕ → Option ℕ → Type 0
IsAt rows top None = Unit {0}
IsAt rows top (Some i) = IsOpen rows top (under i)

-- how many incarnations lie below, at most
abbrev pub below_left : ℕ → Option ℕ → ℕ
below_left next None = 0
below_left next (Some i) = next - i

module _ (rows : List Row) (next : ℕ) (orderly : IsOrderly rows next) (top : ℕ) where
  -- At the top, which is its own outermost closing row, all levels up to it are free.
  pub at_first : outermost rows top ≡ Some top → (r : Row) → row_of rows top ≡ Some r → IsAt rows top (Some top)
  at_first own r lives = (searching_first rows next orderly Idle top own r lives).opened.0

  -- Where the way down stands at a row, that row as a new place is open.
  at_here : (here : ℕ) (at : Option ℕ) → at ≡ Some here → IsAt rows top at → IsOpen rows top (under here)
  at_here here at is so_far = subst (IsAt rows top) is so_far

  -- From a child that was chosen all levels up to the top are free, where they are from its parent.
  pub at_on : (here : ℕ) (at child : Option ℕ) → at ≡ Some here → IsAt rows top at → IsChosen rows here child → IsAt rows top child
  at_on here at None is so_far chosen = tt
  at_on here at (Some c) is so_far chosen = open_kid rows next orderly Idle top (under here) c chosen.kid chosen.free (at_here here at is so_far)

  -- Below the child that a look chooses fewer incarnations are left than below the row.
  lower_by : (here : ℕ) (child : Option ℕ) → IsOpen rows top (under here) → IsChosen rows here child → below_left next child < next - here
  lower_by here None so_far chosen =
      let row : (r : Row) × (row_of rows here ≡ Some r) = below_lives rows next orderly top here so_far.below in
      let high : here < next = below_next rows next here row.0 orderly.increasing row.1 in
      omega arith
  lower_by here (Some c) so_far chosen =
      let low : here < c = kid_higher rows next orderly here c chosen.kid in
      let high : c < next = kid_within rows next orderly here c chosen.kid in
      omega arith

  -- Below a child that was chosen fewer incarnations lie, at most, than below its parent.
  pub at_lower : (here : ℕ) (at child : Option ℕ) → at ≡ Some here → IsAt rows top at → IsChosen rows here child → below_left next child < below_left next at
  at_lower here at child is so_far chosen =
      subst (λ o. below_left next child < below_left next o) (sym is) (lower_by here child (at_here here at is so_far) chosen)

  -- the row that is come to may be picked
  pub at_found : (here : ℕ) (at : Option ℕ) → outermost rows top ≡ Some top → at ≡ Some here → IsAt rows top at → IsHere rows Idle (under here) → IsFound rows top Idle here
  at_found here at own is so_far it =
      let opened : IsOpen rows top (under here) = at_here here at is so_far in
      let free : AllFree rows here (line_up_to rows here here) = subst (AllFree rows here) (sym (path_top rows next orderly here it.row it.lives)) (it.leads.free, tt) in
      record {
        row = it.row;
        may = record {
          lives = it.lives;
          below = opened.below;
          unshut = sym (row_unshut rows next orderly Idle here it.row it.lives) ∙ it.leads.unshut;
          fits = it.fits;
          may_stop = record {
            top = top;
            outermost = top_below rows next orderly top here own opened.below;
            free = opened.free here (below_self rows next orderly here it.row it.lives) free;
          };
        };
      }
