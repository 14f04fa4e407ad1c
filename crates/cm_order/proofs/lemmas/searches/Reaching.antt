-- Ways down that are kept from one pick to the next.
use Rattle.std.proofs.Common.{◌≡◌, ℕ, zero, suc, ◌<◌, ◌≤◌, List, [], ◌∷◌, ◌++◌, length, get_or, le_of_suc-le-suc, true, false, not, Option, Some, None, IsTrue, refl, sym, ◌∙◌, ap, subst, inl, inr, arith}
use Rattle.std.specs.Prelude.{IfSome}
use Rattle.std.specs.Option.{option_map_or}
use Rattle.std.specs.Ordering.{nat_cmp}
use Rattle.std.specs.BTreeMap.{get}
use Rattle.cm_decl.proofs.lemmas.Sameness.{never}
use Rattle.cm_world.specs.declared.row.Row.{Row}
use Rattle.cm_world.specs.Rows.{row_of, is_below, is_subtree_shut, has_closing, is_closing}
use Rattle.cm_world.specs.Sound.{IsOrderly}
use Rattle.cm_world.specs.Stopping.{IsFree, outermost}
use Rattle.cm_world.proofs.lemmas.trees.Finding.{some_same}
use Rattle.cm_order.specs.declared.search.SearchGoal.TheVariants.{Idle}
use Rattle.cm_order.specs.declared.stand.Stand.{Stand}
use Rattle.cm_order.specs.declared.plan.DescentPlan.{DescentPlan}
use Rattle.cm_trees.specs.Kids.{IsKid}
use Rattle.cm_order.specs.declared.search.VisitResult.{VisitResult}
use Rattle.cm_order.specs.declared.search.VisitResult.TheVariants.{Below}
use Rattle.cm_order.specs.Glances.{IsFreeKid, IsGlance, KnowsDependents, AreKidsShut}
use Rattle.cm_order.specs.Plans.{IsFreeOnTheWay, IsKnownLevel, IsStand, IsDescent, AreKnown, IsPlan, IsLowest, KnowsNone}
use Rattle.cm_trees.proofs.trees.Trees.{climb, below_self, below_up, below_cases, below_lives, below_least, below_trans, kid_below, kid_higher}
use Rattle.cm_trees.proofs.trees.Tops.{closing_below}
use Rattle.cm_order.proofs.lemmas.levels.Glancing.{shut_below}
use Rattle.cm_order.proofs.lemmas.searches.Turns.{under, each_join, each_split}
use Rattle.cm_order.proofs.lemmas.searches.Searching.{IsOpen, open_kid}
use Rattle.cm_order.proofs.lemmas.searches.Going.{IsAt, at_first}

module _ (rows : List Row) (next : ℕ) (orderly : IsOrderly rows next) (top : ℕ) where
  -- ---- down the tree

  -- A top that lives is reached by free rows.
  pub reached_top : (r : Row) → row_of rows top ≡ Some r → IsFreeOnTheWay rows top top
  reached_top r lives = record {
    below = below_self rows next orderly top r lives;
    free = λ p c kid upper lower.
        let least : top ≤ p = below_least rows next orderly top p upper in
        let higher : p < c = kid_higher rows next orderly p c kid in
        let low : c ≤ top = below_least rows next orderly c top lower in
        absurd (omega arith);
  }

  -- Where two rows have the same child, they are the same row.
  one_parent : (i p c d : ℕ) (one : IsKid rows i c) (other : IsKid rows p d) → c ≡ d → p ≡ i
  one_parent i p c d one other same =
      let row : other.row ≡ one.row = some_same other.row one.row (sym other.lives ∙ ap (row_of rows) (sym same) ∙ one.lives) in
      some_same p i (sym other.parent ∙ ap (λ r. r.parent) row ∙ one.parent)

  -- On a free way down with a free child at its end, each child row is free at its level.
  free_above : (i c p d : ℕ) → IsFreeOnTheWay rows top i → IsFreeKid rows i c → IsKid rows p d → IsTrue (is_below rows top p) → IsTrue (is_below rows d c) → IsFree rows p d
  free_above i c p d is chosen kid upper lower = elim (below_cases rows next orderly d c chosen.kid.row chosen.kid.lives lower) [
    | inl same ↦ subst (λ z. IsFree rows z d) (sym (one_parent i p c d chosen.kid kid same)) (subst (IsFree rows i) same chosen.free)
    | inr above ↦ is.free p d kid upper (subst (λ z. IsTrue (is_below rows d z)) (some_same above.0 i (sym above.1 ∙ chosen.kid.parent)) above.2)
  ]

  -- one further
  pub reached_kid : (i c : ℕ) → IsFreeOnTheWay rows top i → IsFreeKid rows i c → IsFreeOnTheWay rows top c
  reached_kid i c is chosen = record {
    below = below_trans rows next orderly top i c is.below (kid_below rows next orderly i c chosen.kid);
    free = λ p d kid upper lower. free_above i c p d is chosen kid upper lower;
  }

  -- ---- a search that goes on from there

  -- A free way down is free as far as the parent of its end, where that is still below the top.
  less_far : (i p : ℕ) (r : Row) → row_of rows i ≡ Some r → r.parent ≡ Some p → IsTrue (is_below rows top p) → IsFreeOnTheWay rows top i → IsFreeOnTheWay rows top p
  less_far i p r lives parent below is = record {
    below = below;
    free = λ q c kid upper lower. is.free q c kid upper (below_up rows next orderly c i p r lives parent lower);
  }

  -- From a row that free rows reach all levels up to the top, an outermost closing row, are free.
  pub at_reached : outermost rows top ≡ Some top → (i : ℕ) → IsFreeOnTheWay rows top i → IsAt rows top (Some i)
  at_reached own i is =
      let row : (r : Row) × (row_of rows i ≡ Some r) = below_lives rows next orderly top i is.below in
      climb rows next orderly (λ i. IsFreeOnTheWay rows top i → IsOpen rows top (under i)) step i row.0 row.1 is
    where
      step : (i : ℕ) (r : Row) → row_of rows i ≡ Some r → ((p : ℕ) → r.parent ≡ Some p → IsFreeOnTheWay rows top p → IsOpen rows top (under p)) → IsFreeOnTheWay rows top i → IsOpen rows top (under i)
      step i r lives up is = elim (below_cases rows next orderly top i r lives is.below) [
        | inl same ↦ subst (λ z. IsOpen rows top (under z)) (sym same) (at_first rows next orderly top own r (subst (λ z. row_of rows z ≡ Some r) same lives))
        | inr above ↦
            let kid : IsKid rows above.0 i = record { row = r; lives = lives; parent = above.1 } in
            open_kid rows next orderly Idle top (under above.0) i kid (is.free above.0 i kid above.2 (below_self rows next orderly i r lives))
            (up above.0 above.1 (less_far i above.0 r lives above.1 above.2 is))
      ]

-- ---- the levels of a way

-- Of a way down, the last level is right, and so are those before it.
pub last_stand : (rows : List Row) (top : ℕ) (old rest : List Stand) (s : Stand) → old ≡ rest ++ s ∷ [] → IsDescent rows top old → IsDescent rows top rest × IsStand rows top s
last_stand rows top old rest s split all =
    let parts : IsDescent rows top rest × IsDescent rows top (s ∷ []) = each_split (IsStand rows top) rest (s ∷ []) (subst (IsDescent rows top) split all) in
    (parts.0, parts.1.0)

-- A way down with one more level that is right is a way down.
pub one_more : (rows : List Row) (top : ℕ) (old new : List Stand) (s : Stand) → new ≡ old ++ s ∷ [] → IsDescent rows top old → IsStand rows top s → IsDescent rows top new
one_more rows top old new s pushed all here = subst (IsDescent rows top) (sym pushed) (each_join (IsStand rows top) old (s ∷ []) all (here, tt))

-- A stand at an instance of which nothing was looked at yet.
abbrev pub fresh : ℕ → Stand
fresh inc = record { inc = inc; done = None; below_shut = false }

-- A level that wasn't looked at is right, where its row is reached by free rows.
pub unknown : (rows : List Row) (top inc : ℕ) (s : Stand) → s ≡ fresh inc → IsFreeOnTheWay rows top inc → IsStand rows top s
unknown rows top inc s is reached =
    subst (IsStand rows top) (sym is) (record { reached = reached; known = record { done = λ c kid. inl refl; below = λ yes. never yes } })

-- a plan without a way holds anywhere
pub plan_none : (rows : List Row) (plan : DescentPlan) → KnowsNone plan → IsPlan rows plan
plan_none rows plan none = record {
  way = subst (IsDescent rows plan.top) (sym none.way) tt;
  others = λ top. subst (λ o. IfSome o (λ way. IsDescent rows top way.items)) (sym (none.others top)) tt;
  levels = λ p. subst (λ o. IfSome o (KnowsDependents rows p)) (sym (none.levels p)) tt;
}

-- an instance that is left behind, where all below it is known to be shut
pub left_behind : (rows : List Row) (next : ℕ) → IsOrderly rows next → (s : Stand) (closed : Option ℕ) → IsKnownLevel rows s → option_map_or (λ r. not r.shut) (row_of rows s.inc) false ≡ false → IfSome closed (λ c. (c ≡ s.inc) × IsTrue s.below_shut) → IfSome closed (λ c. IsTrue (is_subtree_shut rows c))
left_behind rows next orderly s None known own is = tt
left_behind rows next orderly s (Some c) known own is = subst (λ z. IsTrue (is_subtree_shut rows z)) (sym is.0) (shut_below rows next orderly s.inc own (known.below is.1))

-- the level at the end of a way was looked at
pub looked_at : (rows : List Row) (top : ℕ) (old rest new : List Stand) (s t : Stand) → old ≡ rest ++ s ∷ [] → IsDescent rows top old → t.inc ≡ s.inc → IsKnownLevel rows t → new ≡ rest ++ t ∷ [] → IsDescent rows top new
looked_at rows top old rest new s t split all same known pushed =
    let parts : IsDescent rows top rest × IsStand rows top s = last_stand rows top old rest s split all in
    one_more rows top rest new t pushed parts.0 (record { reached = subst (IsFreeOnTheWay rows top) (sym same) parts.1.reached; known = known })

-- A way goes on to the child that the look at its last level found.
pub gone_on : (rows : List Row) (next : ℕ) (orderly : IsOrderly rows next) (top : ℕ) (old rest way new : List Stand) (s t : Stand) (c : ℕ) (seen : VisitResult) → old ≡ rest ++ s ∷ [] → IsDescent rows top old → IsDescent rows top way → IsGlance rows s.inc seen → seen ≡ Below (Some c) → t ≡ fresh c → new ≡ way ++ t ∷ [] → IsDescent rows top new
gone_on rows next orderly top old rest way new s t c seen split all so_far glance is new_one pushed =
    let parts : IsDescent rows top rest × IsStand rows top s = last_stand rows top old rest s split all in
    let chosen : IsFreeKid rows s.inc c = subst (IsGlance rows s.inc) is glance in
    one_more rows top way new t pushed so_far (unknown rows top c t new_one (reached_kid rows next orderly top s.inc c parts.1.reached chosen))

-- A plan whose way alone was made anew, and is one from the top, is still a plan.
pub way_changed : (rows : List Row) (old new : DescentPlan) (top : ℕ) → IsPlan rows old → old.top ≡ top → new.top ≡ old.top → new.others ≡ old.others → IsDescent rows top new.way.items → AreKnown rows new.levels → IsPlan rows new
way_changed rows old new top it own same others way levels = record {
  way = subst (λ t. IsDescent rows t new.way.items) (sym (same ∙ own)) way;
  others = λ t. subst (λ m. IfSome (get nat_cmp m t) (λ w. IsDescent rows t w.items)) (sym others) (it.others t);
  levels = levels;
}

-- ---- what stands on a way

-- The level at an index of a way down is right.
pub stand_at : (rows : List Row) (top : ℕ) (stands : List Stand) (k : ℕ) (d : Stand) → IsDescent rows top stands → k < length stands → IsStand rows top (get_or stands k d)
stand_at rows top [] k d all lt = absurd (omega arith)
stand_at rows top (s ∷ ss) zero d all lt = all.0
stand_at rows top (s ∷ ss) (suc k) d all lt = stand_at rows top ss k d all.1 (le_of_suc-le-suc lt)

-- an instance on the way of a plan whose top is closing is closing
pub closing_on : (rows : List Row) (next : ℕ) → IsOrderly rows next → (plan : DescentPlan) (k : ℕ) (s : Stand) (i : ℕ) → IsPlan rows plan → k < length plan.way.items → s ≡ get_or plan.way.items k s → s.inc ≡ i → has_closing rows plan.top ≡ true → IsTrue (is_closing rows i)
closing_on rows next orderly plan k s i it lt is own closing =
    let stand : IsStand rows plan.top (get_or plan.way.items k s) = stand_at rows plan.top plan.way.items k s it.way lt in
    closing_below rows next orderly plan.top i closing
    (subst (λ n. IsTrue (is_below rows plan.top n)) (ap (λ (z : Stand). z.inc) (sym is) ∙ own) stand.reached.below)

-- What a plan tells of a place of its way, that all below it is shut, holds.
pub kids_on : (rows : List Row) (plan : DescentPlan) (k : ℕ) (s : Stand) (i : ℕ) → IsPlan rows plan → k < length plan.way.items → s ≡ get_or plan.way.items k s → s.inc ≡ i → IsTrue s.below_shut → AreKidsShut rows i
kids_on rows plan k s i it lt is own known =
    let stand : IsStand rows plan.top (get_or plan.way.items k s) = stand_at rows plan.top plan.way.items k s it.way lt in
    subst (AreKidsShut rows) own
    (subst (λ (z : Stand). IsTrue z.below_shut → AreKidsShut rows z.inc) (sym is) stand.known.below known)

-- The end of a way from a top, below which a plan tells that all is shut, is reached from there so.
pub lowest_on : (rows : List Row) (plan : DescentPlan) (k : ℕ) (s : Stand) (top : ℕ) → IsPlan rows plan → k < length plan.way.items → s ≡ get_or plan.way.items k s → plan.top ≡ top → IsTrue s.below_shut → IsLowest rows top s.inc
lowest_on rows plan k s top it lt is own known =
    let stand : IsStand rows plan.top s = subst (IsStand rows plan.top) (sym is) (stand_at rows plan.top plan.way.items k s it.way lt) in
    record {
      reached = subst (λ t. IsFreeOnTheWay rows t s.inc) own stand.reached;
      below = stand.known.below known;
    }
