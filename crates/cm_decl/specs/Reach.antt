-- Promised.
-- Paths from node to node, over any relation `On` of direct dependency.
use Rattle.std.specs.Prelude.{List, [], ◌∷◌}

-- a path from x to y through these nodes: each directly depends on the next
abbrev pub DependencyPath : {N : Type 0} → (N → N → Type 0) → N → List N → N → Type 0
DependencyPath On x [] y = On x y
DependencyPath On x (z ∷ zs) y = On x z × DependencyPath On z zs y

-- x depends on y, directly or through others
abbrev pub Reaches : {N : Type 0} → (N → N → Type 0) → N → N → Type 0
Reaches {N} On x y = (between : List N) × DependencyPath On x between y

-- some node depends on itself, directly or through others
abbrev pub HasCycle : {N : Type 0} → (N → N → Type 0) → Type 0
HasCycle {N} On = (x : N) × Reaches On x x

-- no node depends on itself, directly or through others
abbrev pub NoCycle : {N : Type 0} → (N → N → Type 0) → Type 0
NoCycle On = HasCycle On → ⊥
