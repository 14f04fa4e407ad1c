-- Promised.
-- How far a text can still become a text of some kind. A fault's number is this length (`IsLongestPrefix`),
-- for monikers as for commands.
use Rattle.std.specs.Prelude.{ℕ, ◌+◌, ◌<◌, ◌≤◌, List, ◌++◌, length, take}

-- some text of the kind P begins with this text: by this a longest prefix and counts of prefixes are defined
abbrev pub HasCompletion : (List ℕ → Type 0) → List ℕ → Type 0
HasCompletion P t = (rest : List ℕ) × P (t ++ rest)

-- the first n bytes of the text are its longest prefix with which some text of the kind begins
pub record IsLongestPrefix (P : List ℕ → Type 0) (t : List ℕ) (n : ℕ) : Type 0 where
  pub within : n ≤ length t
  pub begins : HasCompletion P (take n t)
  pub stops : n < length t → HasCompletion P (take (n + 1) t) → ⊥
