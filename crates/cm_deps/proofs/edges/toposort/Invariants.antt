use Rattle.std.proofs.Common.{ℕ, ◌<◌, List, Bool}
use Rattle.cm_deps.specs.Edges.{IsListing, IsSettled}
use Rattle.cm_deps.proofs.lemmas.listed.Toposorting.{IsToposorting}
use Rattle.cm_deps.proofs.edges.toposort.Given as goal

-- the nodes before x are settled
pub record IsBeginning (after : List (List ℕ)) (order : List ℕ) (queued done : List Bool) (x : ℕ) : Type 0 where
  pub listing : IsListing after order queued done
  pub settled : (y : ℕ) → y < x → IsSettled after order done y

abbrev pub invariant-loop-x : goal.invariant-loop-x
invariant-loop-x l = IsBeginning l.after l.order.items l.queued.items l.done.items l.x

abbrev pub invariant-loop-head : goal.invariant-loop-head
invariant-loop-head l = IsToposorting l.after l.order.items l.queued.items l.done.items l.head
