-- Inside.
-- What a URL comes to, with the bytes under it.
use Rattle.std.specs.Prelude.{◌≡◌, ℕ, List, Result, Ok}
use Rattle.std.specs.Option.{option_copied}
use Rattle.cm_repo.specs.Blocks.{Blocks, block_at}
use Rattle.cm_repo.specs.declared.repository.ResolvedUrl.{ResolvedUrl}
use Rattle.cm_repo.specs.declared.fault.UrlFault.{UrlFault}

-- the text is the expected one, and the bytes are those of the block with this key, if there is one
pub record IsResolvedUrl (blocks : Blocks) (expected : Result (List ℕ) UrlFault)
    (found : ResolvedUrl) : Type 0 where
  pub url : expected ≡ Ok found.url
  pub bytes : option_copied found.bytes ≡ block_at blocks found.url
