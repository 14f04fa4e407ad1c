-- Inside.
-- Lists each item of which has a property.
use Rattle.std.specs.Prelude.{List, [], ◌∷◌}

-- P holds of all items
abbrev pub EachOfList : {A : Type 0} → (A → Type 0) → List A → Type 0
EachOfList P [] = Unit {0}
EachOfList P (x ∷ xs) = P x × EachOfList P xs
