-- Promised.
-- How numbers are written.
use Rattle.std.specs.Prelude.{◌≡◌, ℕ, ◌+◌, ◌-◌, ◌*◌, List, [], ◌∷◌, Bool, ◌&&◌, nat_le, All, IsTrue}

-- whether a byte is a decimal digit
abbrev pub is_digit : ℕ → Bool
is_digit b = nat_le 48 b && nat_le b 57

-- the number that these digits stand for after the digits of n
abbrev pub value_behind : ℕ → List ℕ → ℕ
value_behind n [] = n
value_behind n (d ∷ ds) = value_behind (n * 10 + (d - 48)) ds

-- one or more decimal digits, without a needless leading zero
abbrev pub IsDecimal : List ℕ → Type 0
IsDecimal [] = ⊥
IsDecimal (d ∷ ds) = IsTrue (is_digit d) × All (λ b. IsTrue (is_digit b)) ds × (d ≡ 48 → ds ≡ [])

-- the text of the number n
abbrev pub IsNumberText : List ℕ → ℕ → Type 0
IsNumberText t n = IsDecimal t × (value_behind 0 t ≡ n)
