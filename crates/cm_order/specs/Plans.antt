-- Inside.
-- What is kept of the search's way down from one pick to the next, so that the next begins where it
-- ended.
use Rattle.std.specs.Prelude.{◌≡◌, ℕ, List, [], Option, None, IfSome, IsTrue, ◌⊎◌}
use Rattle.std.specs.Ordering.{nat_cmp}
use Rattle.std.specs.BTreeMap.{BTreeMap, get}
use Rattle.cm_world.specs.declared.row.Row.{Row}
use Rattle.cm_world.specs.Rows.{is_below, is_subtree_shut}
use Rattle.cm_world.specs.RowsInside.{is_behind}
use Rattle.cm_world.specs.Stopping.{IsFree}
use Rattle.cm_order.specs.declared.stand.Stand.{Stand}
use Rattle.cm_order.specs.declared.plan.DescentPlan.{DescentPlan}
use Rattle.cm_trees.specs.Kids.{IsKid}
use Rattle.cm_order.specs.Levels.{EachOfList}
use Rattle.cm_order.specs.declared.dependents.Dependents.{Dependents}
use Rattle.cm_order.specs.Glances.{KnowsDependents, AreKidsShut}

-- row i is at or below the top, and each child row on the way down to it is free at its level
pub record IsFreeOnTheWay (rows : List Row) (top i : ℕ) : Type 0 where
  pub below : IsTrue (is_below rows top i)
  pub free : (p c : ℕ) → IsKid rows p c → IsTrue (is_below rows top p) → IsTrue (is_below rows c i)
      → IsFree rows p c

-- row i is reached from the top by free rows, and all below it is shut
pub record IsLowest (rows : List Row) (top i : ℕ) : Type 0 where
  pub reached : IsFreeOnTheWay rows top i
  pub below : AreKidsShut rows i

-- each child row of p up to the given one is shut with all below it, or nothing is said
abbrev pub AreShutSoFar : List Row → ℕ → Option ℕ → Type 0
AreShutSoFar rows p last =
    (c : ℕ) → IsKid rows p c → IsTrue (is_behind last c) ⊎ IsTrue (is_subtree_shut rows c)

-- what is kept of one level is right: the children up to one, or all, are shut with all below them
pub record IsKnownLevel (rows : List Row) (s : Stand) : Type 0 where
  pub done : AreShutSoFar rows s.inc s.done
  pub below : IsTrue s.below_shut → AreKidsShut rows s.inc

-- a level on the way down from the top: its row is reached by free rows, and what is kept of it is
-- right
pub record IsStand (rows : List Row) (top : ℕ) (s : Stand) : Type 0 where
  pub reached : IsFreeOnTheWay rows top s.inc
  pub known : IsKnownLevel rows s

-- the levels of one way down from the top, each right
abbrev pub IsDescent : List Row → ℕ → List Stand → Type 0
IsDescent rows top stands = EachOfList (IsStand rows top) stands

-- what is kept of a level holds of it
abbrev pub AreKnown : List Row → BTreeMap ℕ Dependents → Type 0
AreKnown rows levels = (p : ℕ) → IfSome (get nat_cmp levels p) (KnowsDependents rows p)

-- what is kept from one pick to the next is right: each way leads down from its top, and of each level
-- that is known what depends on each child there
pub record IsPlan (rows : List Row) (plan : DescentPlan) : Type 0 where
  pub way : IsDescent rows plan.top plan.way.items
  pub others : (top : ℕ) → IfSome (get nat_cmp plan.others top) (λ way. IsDescent rows top way.items)
  pub levels : AreKnown rows plan.levels

-- nothing is kept: no way, and nothing of any level
pub record KnowsNone (plan : DescentPlan) : Type 0 where
  pub way : plan.way.items ≡ []
  pub others : (top : ℕ) → get nat_cmp plan.others top ≡ None
  pub levels : (p : ℕ) → get nat_cmp plan.levels p ≡ None
