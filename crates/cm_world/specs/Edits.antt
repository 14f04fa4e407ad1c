-- Promised.
-- Changes of one item of a list: of the first that passes a test, which is the one that `find` finds.
use Rattle.std.specs.Prelude.{List, [], ◌∷◌, Bool, if◌then◌else◌}

-- the list with its first item that passes the test changed
abbrev pub edit_first : {A : Type 0} → (A → Bool) → (A → A) → List A → List A
edit_first passes change [] = []
edit_first passes change (x ∷ xs) = if passes x then change x ∷ xs else x ∷ edit_first passes change xs

-- the list without its first item that passes the test
abbrev pub drop_first : {A : Type 0} → (A → Bool) → List A → List A
drop_first passes [] = []
drop_first passes (x ∷ xs) = if passes x then xs else x ∷ drop_first passes xs
