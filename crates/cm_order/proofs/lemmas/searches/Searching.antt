-- The search for a row that may stop, place by place.
use Rattle.std.proofs.Common.{◌≡◌, ℕ, List, [], ◌∷◌, ◌++◌, false, Option, Some, None, IsTrue, refl, sym, ◌∙◌, ap, subst, inl, inr}
use Rattle.std.specs.Option.{option_map_or}
use Rattle.cm_facts.proofs.Booleans.{true_and_false}
use Rattle.cm_world.specs.declared.row.Row.{Row}
use Rattle.cm_world.specs.Rows.{row_of, is_below, is_subtree_shut}
use Rattle.cm_world.specs.RowsInside.{is_behind}
use Rattle.cm_world.specs.Sound.{IsOrderly}
use Rattle.cm_world.specs.Stopping.{is_wholly_shut, IsFree, line_up_to, AllFree, outermost}
use Rattle.cm_world.proofs.lemmas.trees.Finding.{some_same}
use Rattle.cm_order.specs.declared.below.Spot.{Spot}
use Rattle.cm_order.specs.declared.search.SearchGoal.{SearchGoal}
use Rattle.cm_order.specs.Spots.{further}
use Rattle.cm_trees.specs.Kids.{IsKid}
use Rattle.cm_order.specs.Levels.{EachOfList}
use Rattle.cm_order.specs.Search.{IsFreeAt, LeadsNext, IsNextLeading, is_wanted, IsHere, SearchGoesOn, IsFound, NoneIs}
use Rattle.cm_trees.proofs.trees.Trees.{below_self, below_kid, below_trans, kid_below, shut_each, not_true}
use Rattle.cm_trees.proofs.trees.Tops.{top_below}
use Rattle.cm_order.proofs.lemmas.searches.Turns.{past, under, turn_back, turn_on, last_of}
use Rattle.cm_trees.proofs.trees.Paths.{path, path_top}
use Rattle.cm_trees.proofs.levels.Shut.{own_shut, kid_shut}

-- no row at or below this one is looked for, isn't shut and is free at each level up to it
abbrev pub Clear : List Row → SearchGoal → ℕ → Type 0
Clear rows wanted c =
    (y : ℕ) (r : Row) → row_of rows y ≡ Some r → IsTrue (is_below rows c y) → r.shut ≡ false → IsTrue (is_wanted wanted r) →
    AllFree rows y (line_up_to rows c y) → ⊥

-- the same for the children of a place that lead, or, where it is new, for its row
abbrev pub ClearFrom : List Row → SearchGoal → ℕ → Option ℕ → Type 0
ClearFrom rows wanted p None = Clear rows wanted p
ClearFrom rows wanted p (Some b) = (c : ℕ) → IsKid rows p c → IsTrue (is_behind (Some b) c) → IsFreeAt rows p c → Clear rows wanted c

-- No row that is looked for may be found in what is left of a place.
abbrev pub IsClear : List Row → SearchGoal → Spot → Type 0
IsClear rows wanted s = ClearFrom rows wanted s.inc s.behind

-- all levels from the row of a place up to the top are free
pub record IsOpen (rows : List Row) (top : ℕ) (s : Spot) : Type 0 where
  pub below : IsTrue (is_below rows top s.inc)
  pub free : (y : ℕ) → IsTrue (is_below rows s.inc y) → AllFree rows y (line_up_to rows s.inc y) → AllFree rows y (line_up_to rows top y)

-- what is left to look at decides
pub record IsSearching (rows : List Row) (top : ℕ) (wanted : SearchGoal) (left : List Spot) : Type 0 where
  pub opened : EachOfList (IsOpen rows top) left
  pub rest : EachOfList (IsClear rows wanted) left → Clear rows wanted top

module _ (rows : List Row) (next : ℕ) (orderly : IsOrderly rows next) (wanted : SearchGoal) where
  -- Whether a row is wholly shut at its own level is whether it is shut itself.
  pub row_unshut : (p : ℕ) (r : Row) → row_of rows p ≡ Some r → is_wholly_shut rows p p ≡ r.shut
  row_unshut p r lives = own_shut rows p ∙ ap (λ o. option_map_or (λ s. s.shut) o false) lives

  -- A row that is free at each level up to itself is free at its own.
  own_free : (p y : ℕ) (r : Row) → y ≡ p → row_of rows y ≡ Some r → AllFree rows y (line_up_to rows p y) → IsFree rows p p
  own_free p y r same lives free =
      let there : row_of rows p ≡ Some r = subst (λ z. row_of rows z ≡ Some r) same lives in
      let here : AllFree rows p (line_up_to rows p p) = subst (λ z. AllFree rows z (line_up_to rows p z)) same free in
      let both : IsFree rows p p × Unit {0} = subst (AllFree rows p) (path_top rows next orderly p r there) here in both.0

  -- A free child with something at or below it that isn't shut may be gone on to.
  pub kid_leads : (p c y : ℕ) (r : Row) → IsKid rows p c → IsTrue (is_below rows c y) → row_of rows y ≡ Some r → r.shut ≡ false → IsFree rows p c → IsFreeAt rows p c
  kid_leads p c y r kid below lives unshut free = record {
    free = free;
    unshut = kid_shut rows next orderly p c kid ∙ not_true (is_subtree_shut rows c) (λ all. true_and_false r.shut (shut_each rows next orderly c y r all lives below) unshut);
  }

  -- a row and its children decide for all below it
  clear_kids : (p : ℕ) → ((r : Row) → row_of rows p ≡ Some r → r.shut ≡ false → IsTrue (is_wanted wanted r) → IsFree rows p p → ⊥) → ((c : ℕ) → IsKid rows p c → IsFreeAt rows p c → Clear rows wanted c) → Clear rows wanted p
  clear_kids p own kids y r lives below unshut wants free = elim (below_kid rows next orderly p y below) [
    | inl same ↦ own r (subst (λ z. row_of rows z ≡ Some r) same lives) unshut wants (own_free p y r same lives free)
    | inr kid ↦
        let parts : AllFree rows y (line_up_to rows kid.0 y) × IsFree rows p kid.0 = (path rows next orderly p kid.0 y kid.1 kid.2).less y free in
        kids kid.0 kid.1 (kid_leads p kid.0 y r kid.1 kid.2 lives unshut parts.1) y r lives kid.2 unshut wants parts.0
  ]

  -- Where a new place isn't the one, its row, if looked for and not shut, isn't free at its level.
  not_own : (s : Spot) → s.behind ≡ None → (IsHere rows wanted s → ⊥) → (r : Row) → row_of rows s.inc ≡ Some r → r.shut ≡ false → IsTrue (is_wanted wanted r) → IsFree rows s.inc s.inc → ⊥
  not_own s new not_here r lives unshut wants free =
      not_here (record { new = new; row = r; lives = lives; fits = wants; leads = record { free = free; unshut = row_unshut s.inc r lives ∙ unshut } })

  -- Where a place isn't the one and its later free children are clear, it is clear from there on.
  clear_from : (s : Spot) (after : Option ℕ) → s.behind ≡ after → (IsHere rows wanted s → ⊥) → ((c : ℕ) → IsKid rows s.inc c → IsTrue (is_behind s.behind c) → IsFreeAt rows s.inc c → Clear rows wanted c) → ClearFrom rows wanted s.inc after
  clear_from s None new not_here kids = clear_kids s.inc (not_own s new not_here) (λ c kid leads. kids c kid (subst (λ o. IsTrue (is_behind o c)) (sym new) refl) leads)
  clear_from s (Some b) seen not_here kids = λ c kid behind leads. kids c kid (subst (λ o. IsTrue (is_behind o c)) (sym seen) behind) leads

  -- A place that the search leaves is clear.
  clear_none : (s : Spot) (o : Option ℕ) → SearchGoesOn rows wanted s o → o ≡ None → IsClear rows wanted s
  clear_none s o goes e =
      let none : IsNextLeading rows s.inc s.behind None = subst (IsNextLeading rows s.inc s.behind) e goes.below in
      clear_from s s.behind refl goes.not_here (λ c kid behind leads. absurd (none c kid behind leads))

  -- A place is clear where the child at which the search goes on and the later children are.
  clear_some : (s : Spot) (o : Option ℕ) → SearchGoesOn rows wanted s o → (c : ℕ) → o ≡ Some c → IsClear rows wanted (past s.inc c) → IsClear rows wanted (under c) → IsClear rows wanted s
  clear_some s o goes c e later whole =
      let some : LeadsNext rows s.inc s.behind c = subst (IsNextLeading rows s.inc s.behind) e goes.below in
      clear_from s s.behind refl goes.not_here (λ i kid behind leads. elim (some.others i kid behind leads) [
        | inl same ↦ subst (Clear rows wanted) (sym same) whole
        | inr more ↦ later i kid more leads
      ])

  -- From a free child of a place all levels up to the top are free, where they are from the place.
  pub open_kid : (top : ℕ) (s : Spot) (c : ℕ) → IsKid rows s.inc c → IsFree rows s.inc c → IsOpen rows top s → IsOpen rows top (under c)
  open_kid top s c kid free is = record {
    below = below_trans rows next orderly top s.inc c is.below (kid_below rows next orderly s.inc c kid);
    free = λ y below all. is.free y (below_trans rows next orderly s.inc c y (kid_below rows next orderly s.inc c kid) below) ((path rows next orderly s.inc c y kid below).more y all free);
  }

  -- The child at which the search goes on is the next that may be gone on to.
  leads_at : (s : Spot) (o : Option ℕ) → SearchGoesOn rows wanted s o → (c : ℕ) → o ≡ Some c → LeadsNext rows s.inc s.behind c
  leads_at s o goes c e = subst (IsNextLeading rows s.inc s.behind) e goes.below

  -- Where a search goes on at a child, it is a child of the place, behind the one it was left at.
  pub goes_kid : (s : Spot) (o : Option ℕ) → SearchGoesOn rows wanted s o → (c : ℕ) → o ≡ Some c → IsKid rows s.inc c × IsTrue (is_behind s.behind c)
  goes_kid s o goes c e = let some : LeadsNext rows s.inc s.behind c = leads_at s o goes c e in (some.kid, some.behind)

  -- ---- the loop

  -- A search begins at a top that lives and is outermost, where what is left to look at decides.
  pub searching_first : (top : ℕ) → outermost rows top ≡ Some top → (r : Row) → row_of rows top ≡ Some r → IsSearching rows top wanted (under top ∷ [])
  searching_first top own r lives = record {
    opened = (record { below = below_self rows next orderly top r lives; free = λ y below free. free }, tt);
    rest = λ all. all.0;
  }

  -- What is left to look at still decides after a visit that goes on at a child or leaves the place.
  pub searching_on : (top : ℕ) (old rest new : List Spot) (s : Spot) (o : Option ℕ) → IsSearching rows top wanted old → old ≡ rest ++ s ∷ [] → new ≡ rest ++ further s.inc o → SearchGoesOn rows wanted s o → IsSearching rows top wanted new
  searching_on top old rest new s o is was more goes = record {
    opened = subst (EachOfList (IsOpen rows top)) (sym more) (turn_on (IsOpen rows top) rest s o
        (λ c e opened. let some : LeadsNext rows s.inc s.behind c = leads_at s o goes c e in (record { below = opened.below; free = opened.free }, open_kid top s c some.kid some.leads.free opened))
        (subst (EachOfList (IsOpen rows top)) was is.opened));
    rest = λ all. is.rest (subst (EachOfList (IsClear rows wanted)) (sym was) (turn_back (IsClear rows wanted) rest s o (clear_none s o goes) (clear_some s o goes) (subst (EachOfList (IsClear rows wanted)) more all)));
  }

  -- A row that is looked for and may stop as far as its level goes is found below an outermost top.
  pub searching_found : (top : ℕ) (old rest : List Spot) (s : Spot) → outermost rows top ≡ Some top → IsSearching rows top wanted old → old ≡ rest ++ s ∷ [] → IsHere rows wanted s → IsFound rows top wanted s.inc
  searching_found top old rest s own is was here =
      let opened : IsOpen rows top s = last_of (IsOpen rows top) rest s (subst (EachOfList (IsOpen rows top)) was is.opened) in
      let free : AllFree rows s.inc (line_up_to rows s.inc s.inc) = subst (AllFree rows s.inc) (sym (path_top rows next orderly s.inc here.row here.lives)) (here.leads.free, tt) in
      record {
        row = here.row;
        may = record {
          lives = here.lives;
          below = opened.below;
          unshut = sym (row_unshut s.inc here.row here.lives) ∙ here.leads.unshut;
          fits = here.fits;
          may_stop = record {
            top = top;
            outermost = top_below rows next orderly top s.inc own opened.below;
            free = opened.free s.inc (below_self rows next orderly s.inc here.row here.lives) free;
          };
        };
      }

  -- a clear top has no row that is looked for
  pub clear_none_is : (top : ℕ) → outermost rows top ≡ Some top → Clear rows wanted top → NoneIs rows top wanted
  clear_none_is top own clear y r may =
      let same : may.may_stop.top ≡ top = some_same may.may_stop.top top (sym may.may_stop.outermost ∙ top_below rows next orderly top y own may.below) in
      clear y r may.lives may.below may.unshut may.fits (subst (λ t. AllFree rows y (line_up_to rows t y)) same may.may_stop.free)

  -- Where no place is left, no row at or below an outermost top is looked for and may stop.
  pub searching_ends : (top : ℕ) (left : List Spot) → outermost rows top ≡ Some top → IsSearching rows top wanted left → left ≡ [] → NoneIs rows top wanted
  searching_ends top left own is none = clear_none_is top own (is.rest (subst (EachOfList (IsClear rows wanted)) (sym none) tt))
