use Rattle.std.proofs.Common.{◌≡◌, ℕ, ◌<◌, IsTrue, List, Bool, length}
use Rattle.cm_deps.specs.Edges.{holds, IsVisited}
use Rattle.cm_deps.proofs.lemmas.loops.Searching.{IsSearching}
use Rattle.cm_deps.proofs.edges.reach.Given as goal

pub record IsReaching (after : List (List ℕ)) (start : ℕ) (seen : List Bool) (found : List ℕ) (head : ℕ) : Type 0 where
  pub size : length seen ≡ length after
  pub listed : IsVisited seen found
  pub inside : (y : ℕ) → IsTrue (holds found y) → y < length after
  pub search : IsSearching after start found head

abbrev pub invariant-loop-head : goal.invariant-loop-head
invariant-loop-head l = IsReaching l.after l.start l.seen.items l.found.items l.head
