-- Inside.
-- The edges that a realm graph has besides its strong ones: each child that the component itself, the
-- first node, doesn't depend on depends on it.
use Rattle.std.specs.Prelude.{◌≡◌, ◌≢◌, ℕ, ◌<◌, List, [], ◌∷◌, ◌++◌, length, nat_eq}
use Rattle.std.specs.Prelude.{Bool, false, not, ◌&&◌, IsTrue, ◌⊎◌, if◌then◌else◌}
use Rattle.cm_deps.specs.Edges.{holds, On, IsBelow, IsToposorted, IsReach}

-- an implied edge: from node i, which isn't the first and isn't reached by it, to the first
pub record IsApart (after : List (List ℕ)) (reached : List ℕ) (i j : ℕ) : Type 0 where
  pub inside : i < length after
  pub child : i ≢ 0
  pub apart : holds reached i ≡ false
  pub own : j ≡ 0

-- a graph with exactly its strong edges and the implied ones
pub record IsFull (after : List (List ℕ)) (reached : List ℕ) (full : List (List ℕ)) : Type 0 where
  pub size : length full ≡ length after
  pub below : IsBelow full (length full)
  pub strong : (i j : ℕ) → On after i j → On full i j
  pub implied : (i j : ℕ) → IsApart after reached i j → On full i j
  pub only : (i j : ℕ) → On full i j → On after i j ⊎ IsApart after reached i j

-- each node of the list is there once, before all that it depends on, and these are all in the list
abbrev pub IsTopological : List (List ℕ) → List ℕ → Type 0
IsTopological rows [] = Unit {0}
IsTopological rows (x ∷ xs) =
    (holds xs x ≡ false) × ((y : ℕ) → On rows x y → IsTrue (holds xs y)) × IsTopological rows xs

-- the list of node x with its implied edge, if it has one; near tells whether the first node reaches
-- it
abbrev pub row_with : ℕ → List ℕ → Bool → List ℕ
row_with x row near = row ++ (if not (nat_eq x 0) && not near then 0 ∷ [] else [])

-- a graph without a cycle: its strong edges could all be sorted, and this is an order by all edges,
-- each node before what it depends on
pub record IsOrderedGraph (after full : List (List ℕ)) (order : List ℕ) : Type 0 where
  pub listed : List ℕ
  pub toposorted : IsToposorted after listed
  pub all : (x : ℕ) → x < length after → IsTrue (holds listed x)
  pub reached : List ℕ
  pub reach : IsReach after 0 reached
  pub edges : IsFull after reached full
  pub falling : IsTopological full order
  pub whole : (x : ℕ) → x < length after → IsTrue (holds order x)
  pub inside : (x : ℕ) → IsTrue (holds order x) → x < length after
