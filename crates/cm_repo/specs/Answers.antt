-- Inside.
-- What calls promise that may run out of memory or be refused.
use Rattle.std.specs.Prelude.{◌≡◌, ◌⊎◌, Result, Ok, Err, MatchResult}

-- the fault says that memory ran out, or is the expected one
abbrev pub IsRepoRefusal : {A E : Type 0} → E → E → Result A E → Type 0
IsRepoRefusal memory fault expected = (expected ≡ Err fault) ⊎ (fault ≡ memory)

-- the result is the expected one, unless memory ran out
abbrev pub GivesUnless : {A E : Type 0} → E → Result A E → Result A E → Type 0
GivesUnless memory result expected =
    MatchResult result (λ x. expected ≡ Ok x) (λ fault. IsRepoRefusal memory fault expected)
