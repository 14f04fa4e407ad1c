use Rattle.std.proofs.Common.{◌≡◌, List, [], ◌∷◌, Bool, IsTrue}
use Rattle.cm_decl.specs.declared.node.Node.{Node}
use Rattle.cm_decl.specs.Cycle.{IsPickedCycle, NextInCore}
use Rattle.cm_decl.specs.Reach.{DependencyPath, HasCycle}
use Rattle.cm_decl.proofs.lemmas.orders.Comparing.{nodes_strict}
use Rattle.cm_decl.proofs.lemmas.cycles.Loops.{picked_once}

-- a graph has at most one picked cycle
pub picks_once : (edge : Node → Node → Bool) (c d : List Node) → IsPickedCycle edge c → IsPickedCycle edge d → c ≡ d
picks_once edge c d one two = picked_once nodes_strict edge c d one two

-- A way through the least nodes of the core is a way along the edges.
ahead : (edge : Node → Node → Bool) (x : Node) (xs : List Node) (y : Node) → DependencyPath (NextInCore edge) x xs y → DependencyPath (λ a b. IsTrue (edge a b)) x xs y
ahead edge x [] y on = on.0.1
ahead edge x (z ∷ zs) y way = (way.0.0.1, ahead edge z zs y way.1)

-- where a graph has a picked cycle, it has a cycle
pub picked_is_cycle : (edge : Node → Node → Bool) (c : List Node) → IsPickedCycle edge c → HasCycle (λ a b. IsTrue (edge a b))
picked_is_cycle edge c picked = (picked.head, (picked.others, ahead edge picked.head picked.others picked.head picked.loop))
