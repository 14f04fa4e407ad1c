-- Which row that is given may be picked.
use Rattle.std.proofs.Common.{◌≡◌, ◌≢◌, ℕ, List, Bool, true, false, not, ◌&&◌, Option, Some, None, IsTrue, is_none, is_some, option_map, true≢false, option_and_then, refl, sym, ◌∙◌, ap, subst, inl, inr}
use Rattle.std.specs.Prelude.{◌↔◌}
use Rattle.std.specs.Option.{option_map_or}
use Rattle.std.specs.Cmp.{first_so, second_so}
use Rattle.std.proofs.lemmas.Bool.{not-true}
use Rattle.cm_facts.proofs.Options.{is_none_true}
use Rattle.cm_decl.proofs.lemmas.Sameness.{never}
use Rattle.cm_world.specs.declared.row.Row.{Row}
use Rattle.cm_world.specs.declared.view.Facts.{Facts}
use Rattle.cm_world.specs.Rows.{row_of, is_live, is_below, is_closing, has_closing, is_subtree_shut}
use Rattle.cm_world.specs.RowsInside.{facts_of}
use Rattle.cm_world.specs.Sound.{IsOrderly}
use Rattle.cm_world.specs.Step.{may_close}
use Rattle.cm_world.specs.Stopping.{IsFree, AllFree, outermost, MayPick}
use Rattle.cm_world.proofs.lemmas.trees.Finding.{none_some, some_same, find-passes}
use Rattle.cm_trees.specs.Kids.{IsKid}
use Rattle.cm_order.specs.Search.{IsFreeAt}
use Rattle.cm_order.specs.Picking.{MayBePicked}
use Rattle.cm_order.specs.Ways.{is_idle, IsFreeUpTo}
use Rattle.cm_trees.proofs.trees.Trees.{climb, below_self, below_cases, below_lives, below_trans, kid_below}
use Rattle.cm_trees.proofs.trees.Tops.{top_of, top_below, no_top, closing_below}
use Rattle.cm_trees.proofs.trees.Paths.{path, path_top}
use Rattle.cm_order.proofs.lemmas.searches.Searching.{row_unshut, kid_leads}
use Rattle.cm_order.specs.declared.search.SearchGoal.TheVariants.{Idle}

-- ---- a row that is idle

-- A row that is there, isn't shut and has nothing pending.
pub record IsIdleRow (rows : List Row) (i : ℕ) : Type 0 where
  pub row : Row
  pub lives : row_of rows i ≡ Some row
  pub unshut : row.shut ≡ false
  pub pending : row.pending ≡ None

-- What tests as neither shut nor pending is an idle row.
idle_by : (rows : List Row) (i : ℕ) (o : Option Row) → row_of rows i ≡ o → IsTrue (option_map_or (λ r. not r.shut && is_none r.pending) o false) → IsIdleRow rows i
idle_by rows i None e h = never h
idle_by rows i (Some r) e h = record {
  row = r;
  lives = e;
  unshut = not-true r.shut (first_so (not r.shut) (is_none r.pending) h);
  pending = is_none_true r.pending (second_so (not r.shut) (is_none r.pending) h);
}

-- A row that is idle lives, isn't shut and has no pending action.
pub idle_row : (rows : List Row) (i : ℕ) → IsTrue (is_idle rows i) → IsIdleRow rows i
idle_row rows i h = idle_by rows i (row_of rows i) refl h

-- A row that isn't shut and has nothing pending tests as idle.
row_idle : (rows : List Row) (i : ℕ) (r : Row) → row_of rows i ≡ Some r → r.shut ≡ false → r.pending ≡ None → IsTrue (is_idle rows i)
row_idle rows i r lives unshut pending = rw (lives, unshut, pending) refl

-- ---- the test of the target

-- a way up has come to this row, which isn't above the top, and all levels on it are free
pub record IsWayUp (rows : List Row) (top y here : ℕ) : Type 0 where
  pub below : IsTrue (is_below rows top here)
  pub above : IsTrue (is_below rows here y)
  pub free : IsFreeUpTo rows here y

-- what a pick may choose below the top
pub record IsChosen (rows : List Row) (top i : ℕ) : Type 0 where
  pub below : IsTrue (is_below rows top i)
  pub idle : IsTrue (is_idle rows i)
  pub free : IsFreeUpTo rows top i

-- the row above the one that a way up has come to
pub record IsFurther (rows : List Row) (top here p : ℕ) : Type 0 where
  pub kid : IsKid rows p here
  pub below : IsTrue (is_below rows top p)

module _ (rows : List Row) (next : ℕ) (orderly : IsOrderly rows next) where
  -- A row has an outermost closing row exactly where it is closing.
  closing_by : (t : ℕ) (o : Option ℕ) → outermost rows t ≡ o → is_some o ≡ is_closing rows t
  closing_by t None e = sym (no_top rows next orderly t e)
  closing_by t (Some top) e =
      let is = top_of rows next orderly t top e in
      let closing : IsTrue (has_closing rows top) = find-passes (λ i. has_closing rows i) _ top e in
      sym (closing_below rows next orderly top t closing is.below)

  -- Where facts of a row are there, the row is there.
  facts_there : (o : Option Row) (f : Option Facts) → f ≡ option_map facts_of o → is_some f ≡ true → (r : Row) × (o ≡ Some r)
  facts_there None f e there = absurd (true≢false (sym there ∙ ap is_some e))
  facts_there (Some r) f e there = (r, refl)

  -- one that lives
  target_lives : (t : ℕ) (r : Row) (o : Option ℕ) → row_of rows t ≡ Some r → o ≡ outermost rows t → is_some o ≡ may_close rows t
  target_lives t r o lives found =
      let live : is_live rows t ≡ true = ap is_some lives in
      closing_by t o (sym found) ∙ rw live refl

  -- A target that lives has an outermost closing row exactly where its shutdown may go on.
  pub target_told : (t : ℕ) (f : Option Facts) (o : Option ℕ) → f ≡ option_map facts_of (row_of rows t) → is_some f ≡ true → o ≡ outermost rows t → is_some o ≡ may_close rows t
  target_told t f o told there found = let row = facts_there (row_of rows t) f told there in target_lives t row.0 o row.1 found

  -- ---- what is so of a row that may be picked

  -- A row that may be picked is one that a pick may choose below the outermost closing row.
  pub picked_is : (target top i : ℕ) → outermost rows target ≡ Some top → MayBePicked rows target i → IsChosen rows top i
  picked_is target top i outer it =
      let may : MayPick rows target i it.1.row = it.1.may in
      let same : may.top ≡ top = some_same may.top top (sym may.outermost ∙ outer) in
      let below : IsTrue (is_below rows top i) = subst (λ z. IsTrue (is_below rows z i)) same may.below in
      let is = top_of rows next orderly target top outer in
      let own : outermost rows i ≡ Some top = top_below rows next orderly top i is.own below in
      let stop : may.may_stop.top ≡ top = some_same may.may_stop.top top (sym may.may_stop.outermost ∙ own) in
      record {
        below = below;
        idle = row_idle rows i it.1.row may.row may.unshut may.idle;
        free = subst (λ z. IsFreeUpTo rows z i) stop may.may_stop.free;
      }

  -- What a pick may choose may be picked for a target of which not all is shut.
  pub picked_if : (target top i : ℕ) → outermost rows target ≡ Some top → is_subtree_shut rows target ≡ false → IsChosen rows top i → MayBePicked rows target i
  picked_if target top i outer undone it =
      let row : IsIdleRow rows i = idle_row rows i it.idle in
      let is = top_of rows next orderly target top outer in (
        row.row.on,
        record {
          undone = undone;
          row = row.row;
          may = record {
            row = row.lives;
            top = top;
            outermost = outer;
            below = it.below;
            unshut = row.unshut;
            idle = row.pending;
            may_stop = record { top = top; outermost = top_below rows next orderly top i is.own it.below; free = it.free };
          };
          state = refl;
        },
      )

  -- one that is idle there is picked where all levels are free
  pub chosen_if : (target top i : ℕ) (free : Bool) → outermost rows target ≡ Some top → is_subtree_shut rows target ≡ false → IsTrue (is_below rows top i) → IsTrue (is_idle rows i) → IsTrue free ↔ IsFreeUpTo rows top i → IsTrue free ↔ MayBePicked rows target i
  chosen_if target top i free outer undone below idle is = (
    λ h. picked_if target top i outer undone (record { below = below; idle = idle; free = is.0 h }),
    λ it. is.1 (picked_is target top i outer it).free,
  )

  -- none is where the target has no closing row above it
  pub none_picked : (target i : ℕ) → None ≡ outermost rows target → MayBePicked rows target i → ⊥
  none_picked target i none it = absurd (none_some it.1.may.top (none ∙ it.1.may.outermost))

  -- ---- the way up

  -- what is free up to the top is free up to each row on the way
  pub free_down : (top i : ℕ) → IsFreeUpTo rows top i → (h : ℕ) → IsTrue (is_below rows top h) → IsTrue (is_below rows h i) → IsFreeUpTo rows h i
  free_down top i free h upper lower =
      let row : (r : Row) × (row_of rows h ≡ Some r) = below_lives rows next orderly top h upper in
      climb rows next orderly (λ h. IsTrue (is_below rows top h) → IsTrue (is_below rows h i) → IsFreeUpTo rows h i) step h row.0 row.1 upper lower
    where
      step : (h : ℕ) (r : Row) → row_of rows h ≡ Some r → ((p : ℕ) → r.parent ≡ Some p → IsTrue (is_below rows top p) → IsTrue (is_below rows p i) → IsFreeUpTo rows p i) → IsTrue (is_below rows top h) → IsTrue (is_below rows h i) → IsFreeUpTo rows h i
      step h r lives up upper lower = elim (below_cases rows next orderly top h r lives upper) [
        | inl same ↦ subst (λ z. IsFreeUpTo rows z i) (sym same) free
        | inr above ↦
            let kid : IsKid rows above.0 h = record { row = r; lives = lives; parent = above.1 } in
            let wide : IsTrue (is_below rows above.0 i) = below_trans rows next orderly above.0 h i (kid_below rows next orderly above.0 h kid) lower in
            ((path rows next orderly above.0 h i kid lower).less i (up above.0 above.1 above.2 wide)).0
      ]

  -- the row itself leads, where all levels are free
  pub own_leads : (top i : ℕ) → IsTrue (is_below rows top i) → IsTrue (is_idle rows i) → IsFreeUpTo rows top i → IsFreeAt rows i i
  own_leads top i below idle free =
      let row : IsIdleRow rows i = idle_row rows i idle in
      let here : IsFreeUpTo rows i i = free_down top i free i below (below_self rows next orderly i row.row row.lives) in
      let both : IsFree rows i i × Unit {0} = subst (AllFree rows i) (path_top rows next orderly i row.row row.lives) here in
      record { free = both.0; unshut = row_unshut rows next orderly Idle i row.row row.lives ∙ row.unshut }

  -- A way up begins at an idle row at or below the top that may be gone on to at its own level.
  pub way_first : (top i : ℕ) → IsTrue (is_below rows top i) → IsTrue (is_idle rows i) → IsFreeAt rows i i → IsWayUp rows top i i
  way_first top i below idle leads =
      let row : IsIdleRow rows i = idle_row rows i idle in
      record {
        below = below;
        above = below_self rows next orderly i row.row row.lives;
        free = subst (AllFree rows i) (sym (path_top rows next orderly i row.row row.lives)) (leads.free, tt);
      }

  -- The parent that is told of a row is the row's parent.
  parent_is : (here p : ℕ) (r : Row) → row_of rows here ≡ Some r → Some p ≡ option_and_then (λ s. s.parent) (row_of rows here) → r.parent ≡ Some p
  parent_is here p r lives up = sym (up ∙ ap (option_and_then (λ s. s.parent)) lives)

  -- A way up that isn't at the top goes further to the parent, which is at or below the top.
  pub goes_further : (top i here p : ℕ) → IsWayUp rows top i here → here ≢ top → Some p ≡ option_and_then (λ s. s.parent) (row_of rows here) → IsFurther rows top here p
  goes_further top i here p way apart up =
      let row : (r : Row) × (row_of rows here ≡ Some r) = below_lives rows next orderly top here way.below in
      let parent : row.0.parent ≡ Some p = parent_is here p row.0 row.1 up in
      elim (below_cases rows next orderly top here row.0 row.1 way.below) [
        | inl same ↦ absurd (apart same)
        | inr above ↦
            let one : above.0 ≡ p = some_same above.0 p (sym above.1 ∙ parent) in
            record { kid = record { row = row.0; lives = row.1; parent = parent }; below = subst (λ z. IsTrue (is_below rows top z)) one above.2 }
      ]

  -- there is one, unless it is the top
  pub no_end : (top i here : ℕ) → IsWayUp rows top i here → here ≢ top → None ≡ option_and_then (λ s. s.parent) (row_of rows here) → ⊥
  no_end top i here way apart none =
      let row : (r : Row) × (row_of rows here ≡ Some r) = below_lives rows next orderly top here way.below in
      elim (below_cases rows next orderly top here row.0 row.1 way.below) [
        | inl same ↦ apart same
        | inr above ↦ none_some above.0 (none ∙ ap (option_and_then (λ s. s.parent)) row.1 ∙ above.1)
      ]

  -- A way up comes to the row above, where the row that it had come to is free there.
  pub way_further : (top i here p : ℕ) → IsWayUp rows top i here → IsFurther rows top here p → IsFreeAt rows p here → IsWayUp rows top i p
  way_further top i here p way more leads = record {
    below = more.below;
    above = below_trans rows next orderly p here i (kid_below rows next orderly p here more.kid) way.above;
    free = (path rows next orderly p here i more.kid way.above).more i way.free leads.free;
  }

  -- a child that isn't shut leads where it is free
  pub leads_free : (p c : ℕ) → IsKid rows p c → option_map_or (λ r. not r.shut) (row_of rows c) false ≡ true → IsFree rows p c → IsFreeAt rows p c
  leads_free p c kid unshut free =
      kid_leads rows next orderly Idle p c c kid.row kid (below_self rows next orderly c kid.row kid.lives) kid.lives
      (not-true kid.row.shut (sym (ap (λ o. option_map_or (λ r. not r.shut) o false) kid.lives) ∙ unshut)) free

  -- each row on the way leads, where all levels are free
  pub next_leads : (top i here p : ℕ) → IsTrue (is_idle rows i) → IsWayUp rows top i here → IsFurther rows top here p → IsFreeUpTo rows top i → IsFreeAt rows p here
  next_leads top i here p idle way more free =
      let row : IsIdleRow rows i = idle_row rows i idle in
      let wide : IsTrue (is_below rows p i) = below_trans rows next orderly p here i (kid_below rows next orderly p here more.kid) way.above in
      let at : IsFreeUpTo rows p i = free_down top i free p more.below wide in
      kid_leads rows next orderly Idle p here i row.row more.kid way.above row.lives row.unshut ((path rows next orderly p here i more.kid way.above).less i at).1

  -- where it ends all levels are free
  pub way_ends : (top i here : ℕ) → IsWayUp rows top i here → here ≡ top → IsTrue true ↔ IsFreeUpTo rows top i
  way_ends top i here way same = (λ yes. subst (λ z. IsFreeUpTo rows z i) same way.free, λ free. refl)
