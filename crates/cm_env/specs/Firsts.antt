-- Inside.
-- A map from texts to rows, by which names are looked up.
use Rattle.std.specs.Prelude.{◌≡◌, ℕ, List, find}
use Rattle.std.specs.Option.{option_copied}
use Rattle.std.specs.HashMap.{HashMap, get_by}
use Rattle.std.specs.Str.{bytes_eq}
use denote.Ref.{Bor}

-- the map has for each text the first of these rows that has it
abbrev pub HasFirsts : {A S : Type 0} → (A → List ℕ) → List A → HashMap (Bor (List ℕ)) (Bor A) S → Type 0
HasFirsts key rows firsts =
    (text : List ℕ)
    → option_copied (get_by (λ k. bytes_eq text k.now) firsts) ≡ find (λ row. bytes_eq (key row) text) rows
