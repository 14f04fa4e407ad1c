-- Inside.
-- Lists that begin with others.
use Rattle.std.specs.Prelude.{◌≡◌, List, ◌++◌}

-- the second list begins with the first
abbrev pub IsPrefixOf : {A : Type 0} → List A → List A → Type 0
IsPrefixOf {A} prefix whole = (rest : List A) × (whole ≡ prefix ++ rest)
