use Rattle.std.proofs.Common.{List, [], ◌∷◌, ◌++◌}
use Rattle.std.specs.Prelude.{map}
use Rattle.cm_decl.specs.Reach.{DependencyPath, Reaches}

-- two ways make one, through the node where they meet
pub DependencyPath-join : {N : Type 0} (On : N → N → Type 0) (x : N) (xs : List N) (y : N) (ys : List N) (z : N) → DependencyPath On x xs y → DependencyPath On y ys z → DependencyPath On x (xs ++ y ∷ ys) z
DependencyPath-join On x [] y ys z on way = (on, way)
DependencyPath-join On x (v ∷ vs) y ys z first second = (first.0, DependencyPath-join On v vs y ys z first.1 second)

-- a way through a node is two ways
pub DependencyPath-split : {N : Type 0} (On : N → N → Type 0) (x : N) (xs : List N) (y : N) (ys : List N) (z : N) → DependencyPath On x (xs ++ y ∷ ys) z → DependencyPath On x xs y × DependencyPath On y ys z
DependencyPath-split On x [] y ys z way = way
DependencyPath-split On x (v ∷ vs) y ys z way =
    let rest : DependencyPath On v vs y × DependencyPath On y ys z = DependencyPath-split On v vs y ys z way.1 in ((way.0, rest.0), rest.1)

-- A way with one step more at its end is a way.
pub DependencyPath-snoc : {N : Type 0} (On : N → N → Type 0) (x : N) (xs : List N) (y z : N) → DependencyPath On x xs y → On y z → DependencyPath On x (xs ++ y ∷ []) z
DependencyPath-snoc On x xs y z way on = DependencyPath-join On x xs y [] z way on

-- a way along other steps, where each step is one of them
pub DependencyPath-along : {N : Type 0} (On Along : N → N → Type 0) → ((x y : N) → On x y → Along x y) → (x : N) (xs : List N) (y : N) → DependencyPath On x xs y → DependencyPath Along x xs y
DependencyPath-along On Along same x [] y on = same x y on
DependencyPath-along On Along same x (z ∷ zs) y way = (same x z way.0, DependencyPath-along On Along same z zs y way.1)

-- What is reached by the steps of one relation is reached by those of another which has them all.
pub Reaches-along : {N : Type 0} (On Along : N → N → Type 0) → ((x y : N) → On x y → Along x y) → (x y : N) → Reaches On x y → Reaches Along x y
Reaches-along On Along same x y way = (way.0, DependencyPath-along On Along same x way.0 y way.1)

-- A way has a last step, which leads to its end.
pub last_step : {N : Type 0} (On : N → N → Type 0) (x : N) (xs : List N) (y : N) → DependencyPath On x xs y → (z : N) × On z y
last_step On x [] y on = (x, on)
last_step On x (z ∷ zs) y way = last_step On z zs y way.1

-- a way of nodes that stand at places: each place keeps to those that are inside
pub DependencyPath-map : {M N : Type 0} (On : M → M → Type 0) (Along : N → N → Type 0) (at : M → N) (Inside : M → Type 0) → ((x y : M) → Inside x → On x y → Inside y × Along (at x) (at y)) → (x : M) → Inside x → (xs : List M) (y : M) → DependencyPath On x xs y → DependencyPath Along (at x) (map at xs) (at y)
DependencyPath-map On Along at Inside step x inside [] y on = (step x y inside on).1
DependencyPath-map On Along at Inside step x inside (z ∷ zs) y way =
    let first : Inside z × Along (at x) (at z) = step x z inside way.0 in
    (first.1, DependencyPath-map On Along at Inside step z first.0 zs y way.1)

-- what is reached from inside is inside
pub DependencyPath-inside : {M : Type 0} (On : M → M → Type 0) (Inside : M → Type 0) → ((x y : M) → Inside x → On x y → Inside y) → (x : M) → Inside x → (xs : List M) (y : M) → DependencyPath On x xs y → Inside y
DependencyPath-inside On Inside step x inside [] y on = step x y inside on
DependencyPath-inside On Inside step x inside (z ∷ zs) y way = DependencyPath-inside On Inside step z (step x z inside way.0) zs y way.1
