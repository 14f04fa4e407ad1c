-- Inside.
-- Sets of the texts that rows have.
use Rattle.std.specs.Prelude.{◌≡◌, ℕ, List}
use Rattle.cm_valid.specs.Lookup.{has}
use Rattle.cm_env.specs.Repeats.{has_key}

-- the set has exactly the texts of these rows
abbrev pub HasKeys : {A : Type 0} → (A → List ℕ) → List A → List (List ℕ) → Type 0
HasKeys key rows names = (text : List ℕ) → has names text ≡ has_key key rows text
