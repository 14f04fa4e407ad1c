-- Promised.
-- Which texts are names, and the first fault of a text that is none.
use Rattle.std.specs.Prelude.{ℕ, ◌+◌, ◌≤◌, List, [], ◌∷◌, length, Bool, not, ◌&&◌, ◌||◌, ◌==◌, nat_lt, nat_le}
use Rattle.std.specs.Prelude.{Option, Some, None, option_map, position, All, if◌then◌else◌, IsTrue}
use Rattle.cm_names.specs.declared.name.NameFault.{NameFault}
use Rattle.cm_names.specs.declared.name.NameFault.TheVariants.{Empty, TooLong, BadByte}

-- whether a name may begin with this byte: a letter, a digit or an underscore
abbrev pub begins_name : ℕ → Bool
begins_name b =
    (nat_le 48 b && nat_le b 57) || (nat_le 65 b && nat_le b 90) || (nat_le 97 b && nat_le b 122) || (b == 95)

-- whether this byte may follow in a name: one of these, a hyphen or a dot
abbrev pub continues_name : ℕ → Bool
continues_name b = begins_name b || (b == 45) || (b == 46)

-- a name: 1 to 255 bytes that names may have
abbrev pub IsName : List ℕ → Type 0
IsName [] = ⊥
IsName (b ∷ bs) = (length (b ∷ bs) ≤ 255) × IsTrue (begins_name b) × All (λ c. IsTrue (continues_name c)) bs

-- the place of the first byte that may not stand there in a name
abbrev pub first_bad : List ℕ → Option ℕ
first_bad [] = None
first_bad (b ∷ bs) =
    if begins_name b then option_map (λ i. i + 1) (position (λ c. not (continues_name c)) bs) else Some 0

-- the first fault of a text that is to be a name
abbrev pub name_fault : List ℕ → Option NameFault
name_fault t =
    if length t == 0 then Some Empty
    else if nat_lt 255 (length t) then Some TooLong
    else option_map BadByte (first_bad t)
