use Rattle.std.proofs.Common.{List, [], ◌∷◌}
use Rattle.cm_decl.specs.Reach.{DependencyPath, Reaches, NoCycle}

-- two ways make one
pub DependencyPath-append : {N : Type 0} (On : N → N → Type 0) (x : N) (xs : List N) (y : N) (ys : List N) (z : N) → DependencyPath On x xs y → DependencyPath On y ys z → Reaches On x z
DependencyPath-append On x [] y ys z on way = (y ∷ ys, (on, way))
DependencyPath-append On x (v ∷ vs) y ys z first second =
    let rest : Reaches On v z = DependencyPath-append On v vs y ys z first.1 second in (v ∷ rest.0, (first.0, rest.1))

-- Where one node depends on a second, and that on a third, the first depends on the third.
pub Reaches-trans : {N : Type 0} (On : N → N → Type 0) (x y z : N) → Reaches On x y → Reaches On y z → Reaches On x z
Reaches-trans On x y z first second = DependencyPath-append On x first.0 y second.0 z first.1 second.1

-- no cycle where no step leads to a node from which one goes on
pub acyclic_by_ends : {N : Type 0} (On : N → N → Type 0) → ((x y z : N) → On x y → On y z → ⊥) → NoCycle On
acyclic_by_ends On short (x, ([], on)) = short x x x on on
acyclic_by_ends On short (x, (z ∷ [], way)) = short x z x way.0 way.1
acyclic_by_ends On short (x, (z ∷ v ∷ vs, way)) = short x z v way.0 way.1.0
