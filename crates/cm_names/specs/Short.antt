-- Promised.
-- A text that is short enough to be kept in place, as contracts see it.
use Rattle.std.specs.Prelude.{ℕ, List}

-- its bytes, and those of the unused room, of which no clause says anything
pub record ShortText : Type 0 where
  pub bytes : List ℕ
  pub spare : List ℕ
