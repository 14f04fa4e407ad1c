-- Inside.
-- All that the nodes of a numbered graph depend on.
use Rattle.std.specs.Prelude.{◌≡◌, ℕ, ◌<◌, List, length}
use Rattle.cm_deps.specs.Edges.{row, IsReach}

-- for each of the first count nodes a list of exactly what it depends on, directly or through others
pub record IsClosure (after : List (List ℕ)) (count : ℕ) (all : List (List ℕ)) : Type 0 where
  pub size : length all ≡ count
  pub reach : (x : ℕ) → x < count → IsReach after x (row all x)
