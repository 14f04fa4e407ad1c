use Rattle.std.proofs.Common.{ℕ, ◌<◌, ◌≤◌, List, length, take, get_or, IsTrue}
use Rattle.cm_deps.specs.Edges.{holds}
use Rattle.cm_deps.proofs.ring.place_of_least.Given as goal

-- the place of the least so far
pub record IsLeastPlace (nodes prefix : List ℕ) (place : ℕ) : Type 0 where
  pub inside : place < length nodes
  pub least : (x : ℕ) → IsTrue (holds prefix x) → get_or nodes place 0 ≤ x

abbrev pub invariant-loop-place : goal.invariant-loop-place
invariant-loop-place l = IsLeastPlace l.nodes (take l.place l.nodes) l.least
