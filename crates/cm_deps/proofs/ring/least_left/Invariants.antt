use Rattle.std.proofs.Common.{◌≡◌, ℕ, ◌≤◌, List, Bool, false, length, take, IsTrue, ◌⊎◌}
use Rattle.cm_deps.specs.Edges.{is_set, holds}
use Rattle.cm_deps.proofs.ring.least_left.Given as goal

-- the least so far: at first none, which is above all
pub record IsLeastSoFar (nodes : List ℕ) (listed : List Bool) (least : ℕ) : Type 0 where
  pub low : (z : ℕ) → IsTrue (holds nodes z) → is_set listed z ≡ false → least ≤ z
  pub among : (least ≡ length listed) ⊎ (IsTrue (holds nodes least) × (is_set listed least ≡ false))

abbrev pub invariant-loop-node : goal.invariant-loop-node
invariant-loop-node l = IsLeastSoFar (take l.node-index l.nodes) l.listed l.least
