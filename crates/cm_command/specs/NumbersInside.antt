-- Inside.
-- Numbers that fit in 64 bits.
use Rattle.std.specs.Prelude.{ℕ, ◌-◌, ◌<◌, ◌^◌, List}
use Rattle.cm_command.specs.Numbers.{IsNumberText}

-- the text of some number of 64 bits
abbrev pub IsU64Text : List ℕ → Type 0
IsU64Text t = (n : ℕ) × IsNumberText t n × (n < 2 ^ 64)
