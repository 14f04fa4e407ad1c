-- Inside.
-- The cycle that is told of a graph which can't be sorted: the same one for everyone who looks. It is
-- found by following, from the first node that is left, the least node that is left and depended on.
use Rattle.std.specs.Prelude.{◌≡◌, ℕ, ◌<◌, ◌≤◌, List, [], ◌∷◌, ◌++◌, length, take, drop, get_or, Bool, false}
use Rattle.std.specs.Prelude.{IsTrue, ◌⊎◌}
use Rattle.cm_decl.specs.Reach.{DependencyPath, Reaches}
use Rattle.cm_deps.specs.Edges.{holds, On}

-- the step of that walk: y is the least node that isn't listed and on which x directly depends
pub record LeadsToLeast (after : List (List ℕ)) (listed : ℕ → Bool) (x y : ℕ) : Type 0 where
  pub on : On after x y
  pub left : listed y ≡ false
  pub least : (z : ℕ) → On after x z → listed z ≡ false → y ≤ z

-- each node that isn't listed depends on one that isn't, so the walk always goes on
abbrev pub EachHasUnlisted : List (List ℕ) → (ℕ → Bool) → Type 0
EachHasUnlisted after listed =
    (x : ℕ) → x < length after → listed x ≡ false → (y : ℕ) × On after x y × (listed y ≡ false)

-- no node is in the list twice
abbrev pub Once : List ℕ → Type 0
Once [] = Unit {0}
Once (x ∷ xs) = (holds xs x ≡ false) × Once xs

-- a walk that began at start, passed these nodes and stands at x
abbrev pub IsTrail : (ℕ → ℕ → Type 0) → ℕ → List ℕ → ℕ → Type 0
IsTrail Onward start [] x = start ≡ x
IsTrail Onward start (w ∷ ws) x = (start ≡ w) × DependencyPath Onward start ws x

-- a walk that passed no node twice, and has come back to one that it had passed
pub record IsWalk (after : List (List ℕ)) (listed : ℕ → Bool) (start : ℕ) (passed : List ℕ) (node : ℕ)
    : Type 0 where
  pub trail : IsTrail (LeadsToLeast after listed) start passed node
  pub once : Once passed
  pub back : IsTrue (holds passed node)

-- x is the least of these nodes that isn't listed
pub record IsLeastLeft (nodes : List ℕ) (listed : ℕ → Bool) (x : ℕ) : Type 0 where
  pub among : IsTrue (holds nodes x)
  pub left : listed x ≡ false
  pub least : (z : ℕ) → IsTrue (holds nodes z) → listed z ≡ false → x ≤ z

-- x is the first node of the graph that isn't listed; the walk begins there
pub record IsFirstLeft (size : ℕ) (listed : ℕ → Bool) (x : ℕ) : Type 0 where
  pub inside : x < size
  pub left : listed x ≡ false
  pub first : (y : ℕ) → y < x → IsTrue (listed y)

-- the cycle begun at its least node
pub record IsRotated (nodes ring : List ℕ) : Type 0 where
  pub place : ℕ
  pub inside : place < length nodes
  pub least : (x : ℕ) → IsTrue (holds nodes x) → get_or nodes place 0 ≤ x
  pub whole : ring ≡ drop place nodes ++ take place nodes

-- the cycle that the walk from the first node that isn't listed comes to, begun at its least node
pub record IsRing (after : List (List ℕ)) (listed : ℕ → Bool) (ring : List ℕ) : Type 0 where
  pub start : ℕ
  pub first : IsFirstLeft (length after) listed start
  pub head : ℕ
  pub others : List ℕ
  pub reached : (start ≡ head) ⊎ Reaches (LeadsToLeast after listed) start head
  pub loop : DependencyPath (LeadsToLeast after listed) head others head
  pub once : holds others head ≡ false
  pub least : (x : ℕ) → IsTrue (holds others x) → head ≤ x
  pub whole : ring ≡ head ∷ others
