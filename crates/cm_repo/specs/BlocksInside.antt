-- Inside.
-- What one more block changes.
use Rattle.std.specs.Prelude.{◌≡◌, ◌≢◌, ℕ, List, Some, Ok}
use Rattle.cm_repo.specs.Urls.{key_of}
use Rattle.cm_repo.specs.Blocks.{Blocks, block_at}

-- this block is found by its URL, and by every other URL what was found before
pub record FindsAlso (old new : Blocks) (url bytes : List ℕ) : Type 0 where
  pub found : (key : List ℕ) → key_of url ≡ Ok key → block_at new key ≡ Some bytes
  pub others : (key : List ℕ) → key_of url ≢ Ok key → block_at new key ≡ block_at old key
