use Rattle.std.proofs.Common.{◌≡◌, ℕ, List, Bool, length, take}
use Rattle.cm_deps.specs.Edges.{IsVisited, IsAdded}
use Rattle.cm_deps.proofs.edges.add_new.Given as goal

-- a part of the nodes was put there
pub record IsPutting (nodes old found : List ℕ) (flags seen : List Bool) : Type 0 where
  pub size : length seen ≡ length flags
  pub listed : IsVisited seen found
  pub step : IsAdded nodes old found

abbrev pub invariant-loop-x : goal.invariant-loop-x
invariant-loop-x l = IsPutting (take l.x-index l.nodes) l.fn.found.items l.found.items l.fn.seen.items l.seen.items
