use Rattle.std.proofs.Common.{◌≡◌, ℕ, List, Bool, length, take}
use Rattle.cm_deps.specs.Edges.{is_set, holds}
use Rattle.cm_deps.proofs.ring.flags.Given as goal

-- the nodes that were seen have their flags
pub record IsFlagging (flags : List Bool) (nodes : List ℕ) (count : ℕ) : Type 0 where
  pub size : length flags ≡ count
  pub listed : (x : ℕ) → is_set flags x ≡ holds nodes x

abbrev pub invariant-loop-x : goal.invariant-loop-x
invariant-loop-x l = IsFlagging l.flags.items (take l.x-index l.order) l.count
