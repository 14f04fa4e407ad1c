-- Inside.
-- What the search for a row that may stop comes to. It goes down the tree, level by level, by nodes
-- that are free.
use Rattle.std.specs.Prelude.{◌≡◌, ℕ, List, Bool, false, Option, Some, None, is_none, is_some, IsTrue, ◌⊎◌}
use Rattle.cm_world.specs.declared.row.Row.{Row}
use Rattle.cm_world.specs.Rows.{row_of, is_below}
use Rattle.cm_world.specs.RowsInside.{is_behind}
use Rattle.cm_world.specs.Stopping.{is_wholly_shut, IsFree, MayStop}
use Rattle.cm_order.specs.declared.below.Spot.{Spot}
use Rattle.cm_order.specs.declared.search.SearchGoal.{SearchGoal}
use Rattle.cm_order.specs.declared.search.SearchGoal.TheVariants.{Idle, Pending}
use Rattle.cm_order.specs.declared.search.VisitResult.{VisitResult}
use Rattle.cm_order.specs.declared.search.VisitResult.TheVariants.{Here, Below}
use Rattle.cm_trees.specs.Kids.{IsKid}

-- ---- one level

-- node x may be gone on to at the level of p: it isn't wholly shut, and all that depends on it is
pub record IsFreeAt (rows : List Row) (p x : ℕ) : Type 0 where
  pub free : IsFree rows p x
  pub unshut : is_wholly_shut rows p x ≡ false

-- c is the first child of p after the given one that may be gone on to
pub record LeadsNext (rows : List Row) (p : ℕ) (after : Option ℕ) (c : ℕ) : Type 0 where
  pub kid : IsKid rows p c
  pub behind : IsTrue (is_behind after c)
  pub leads : IsFreeAt rows p c
  pub others : (i : ℕ) → IsKid rows p i → IsTrue (is_behind after i) → IsFreeAt rows p i
      → (i ≡ c) ⊎ IsTrue (is_behind (Some c) i)

-- the first such child, or that there is none
abbrev pub IsNextLeading : List Row → ℕ → Option ℕ → Option ℕ → Type 0
IsNextLeading rows p after None = (c : ℕ) → IsKid rows p c → IsTrue (is_behind after c)
    → IsFreeAt rows p c → ⊥
IsNextLeading rows p after (Some c) = LeadsNext rows p after c

-- ---- one visit

-- whether a row is one of those that are looked for: idle ones, or ones with a pending action
abbrev pub is_wanted : SearchGoal → Row → Bool
is_wanted Idle r = is_none r.pending
is_wanted Pending r = is_some r.pending

-- the row of a new place is one that is looked for, and may stop as far as its own level goes
pub record IsHere (rows : List Row) (wanted : SearchGoal) (s : Spot) : Type 0 where
  pub new : s.behind ≡ None
  pub row : Row
  pub lives : row_of rows s.inc ≡ Some row
  pub fits : IsTrue (is_wanted wanted row)
  pub leads : IsFreeAt rows s.inc s.inc

-- the row of the place isn't the one, and the search goes on at a child, or leaves the place
pub record SearchGoesOn (rows : List Row) (wanted : SearchGoal) (s : Spot) (child : Option ℕ) : Type 0 where
  pub not_here : IsHere rows wanted s → ⊥
  pub below : IsNextLeading rows s.inc s.behind child

-- what a visit of one place comes to
abbrev pub IsVisit : List Row → SearchGoal → Spot → VisitResult → Type 0
IsVisit rows wanted s Here = IsHere rows wanted s
IsVisit rows wanted s (Below child) = SearchGoesOn rows wanted s child

-- ---- the whole search

-- a row at or below the top that is looked for, isn't shut and may stop
pub record IsCandidate (rows : List Row) (top : ℕ) (wanted : SearchGoal) (y : ℕ) (r : Row) : Type 0 where
  pub lives : row_of rows y ≡ Some r
  pub below : IsTrue (is_below rows top y)
  pub unshut : r.shut ≡ false
  pub fits : IsTrue (is_wanted wanted r)
  pub may_stop : MayStop rows y

-- there is such a row, and it is this one
pub record IsFound (rows : List Row) (top : ℕ) (wanted : SearchGoal) (y : ℕ) : Type 0 where
  pub row : Row
  pub may : IsCandidate rows top wanted y row

-- there is no such row
abbrev pub NoneIs : List Row → ℕ → SearchGoal → Type 0
NoneIs rows top wanted = (y : ℕ) (r : Row) → IsCandidate rows top wanted y r → ⊥

-- what the whole search comes to: such a row, or that there is none
abbrev pub IsSearched : List Row → ℕ → SearchGoal → Option ℕ → Type 0
IsSearched rows top wanted None = NoneIs rows top wanted
IsSearched rows top wanted (Some y) = IsFound rows top wanted y
