-- Promised.
-- The lines of bytes, and the bytes that a source gives in a call.
use Rattle.std.specs.Prelude.{ℕ, cond, nat_eq, List, [], ◌∷◌}
use Rattle.std.specs.Io.KnownBytes.{Appends, Consumes}
use Rattle.cm_io.specs.Outside.{AsSource}

-- the lines with one more byte at the start of the first; where there is none, the byte is a line
abbrev pub in_prefix : ℕ → List (List ℕ) → List (List ℕ)
in_prefix byte [] = (byte ∷ []) ∷ []
in_prefix byte (line ∷ lines) = (byte ∷ line) ∷ lines

-- the lines of bytes: each line feed ends one, and what follows the last counts as a line where it
-- isn't empty
unfoldable pub lines : List ℕ → List (List ℕ)
lines [] = []
lines (byte ∷ bytes) = cond (nat_eq byte 10) ([] ∷ lines bytes) (in_prefix byte (lines bytes))

-- the source gave these bytes in a call, as far as it tells what is left and what it gave
abbrev pub Moves : AsSource → AsSource → List ℕ → Type 0
Moves old new given = Consumes old.left new.left given × Appends old.given new.given given
