-- Promised.
-- The size of the cache, which keeps what walks from uses came to.
use Rattle.std.specs.Prelude.{ℕ}

-- a cache keeps at most so many answers
abbrev pub most : ℕ
most = 16384
