use Rattle.std.proofs.Common.{ℕ, List, Bool, take, IsTrue}
use Rattle.cm_deps.specs.Edges.{holds, IsListing, IsSettled, Extends}
use Rattle.cm_deps.proofs.edges.release.Given as goal

-- a part of the nodes is settled
pub record IsReleasing (after : List (List ℕ)) (nodes : List ℕ) (done : List Bool) (before order : List ℕ) (queued : List Bool) : Type 0 where
  pub listing : IsListing after order queued done
  pub settled : (y : ℕ) → IsTrue (holds nodes y) → IsSettled after order done y
  pub longer : Extends before order

abbrev pub invariant-loop-x : goal.invariant-loop-x
invariant-loop-x l = IsReleasing l.after (take l.x-index l.nodes) l.done l.fn.order.items l.order.items l.queued.items
