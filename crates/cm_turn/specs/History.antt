-- Promised.
-- Words for a history: a list of entries, each of which a numbered caller has made.
use Rattle.std.specs.Prelude.{◌≡◌, ◌==◌, ℕ, Bool, true, false, List, ◌++◌, length, filter, nat_lt}

module _ {E : Type 0} where
  -- the history begins with what was seen
  abbrev pub StartsWith : List E → List E → Type 0
  StartsWith log seen = (rest : List E) × (log ≡ seen ++ rest)

  -- the entries that caller c made, in order
  abbrev pub entries_by : (E → ℕ) → ℕ → List E → List E
  entries_by by c log = filter (λ e. by e == c) log

  -- the second list where the flag is true, else the first
  abbrev pub longer_if : Bool → List E → List E → List E
  longer_if true xs ys = ys
  longer_if false xs ys = xs

  -- the longer of two lists, and the first where neither is
  abbrev pub longer : List E → List E → List E
  longer xs ys = longer_if (nat_lt (length xs) (length ys)) xs ys
