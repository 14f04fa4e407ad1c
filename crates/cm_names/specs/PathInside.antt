-- Inside.
-- Paths that lie inside others.
use Rattle.std.specs.Prelude.{◌≡◌, ℕ, ◌+◌, List, ◌++◌, codes}

-- the first path lies inside the second: it begins with it and a slash
abbrev pub IsInside : List ℕ → List ℕ → Type 0
IsInside path folder = (rest : List ℕ) × (path ≡ folder ++ (codes "/" ++ rest))
