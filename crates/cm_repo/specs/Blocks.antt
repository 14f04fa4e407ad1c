-- Promised.
-- The manifests that a script brings itself: a list of blocks, each with its URL's text as key and its
-- bytes.
use Rattle.std.specs.Prelude.{◌≡◌, ℕ, List, [], ◌∷◌, ◌++◌, map, Option, Result, Ok, Err, is_some, IsTrue}
use Rattle.std.specs.Prelude.{String, string_bytes, if◌then◌else◌}
use Rattle.std.specs.Map.{lookup}
use Rattle.std.specs.Result.{result_map_both}
use Rattle.std.specs.Str.{bytes_eq}
use Rattle.std.specs.declared.alloc.Global.{Global}
use Rattle.cm_names.specs.Steps.{◌>>=◌}
use Rattle.cm_repo.specs.Urls.{key_of}
use Rattle.cm_repo.specs.declared.repository.KeptBlock.{KeptBlock}
use Rattle.cm_repo.specs.declared.fault.UrlFault.{UrlFault}
use Rattle.cm_repo.specs.declared.fault.UrlFault.TheVariants as url
use Rattle.cm_repo.specs.declared.fault.RepoFault.{RepoFault}
use Rattle.cm_repo.specs.declared.fault.RepoFault.TheVariants.{BadUrl, NoFragment, Repeated, Memory}

-- the keys and the bytes of all blocks, in the order in which they came
abbrev pub Blocks : Type 0
Blocks = List (List ℕ × List ℕ)

-- the blocks that a map's entries stand for
abbrev pub blocks_of : List (String Global × KeptBlock) → Blocks
blocks_of entries = map (λ entry. (string_bytes entry.0, entry.1.bytes)) entries

-- where a block came under the very text of its key, that text is what its URL comes to
abbrev pub IsOwnKey : String Global × KeptBlock → Type 0
IsOwnKey entry = IsTrue entry.1.verbatim → key_of (string_bytes entry.0) ≡ Ok (string_bytes entry.0)

-- the bytes with this key, if there are some
abbrev pub block_at : Blocks → List ℕ → Option (List ℕ)
block_at blocks key = lookup (bytes_eq key) blocks

-- the fault of a block by that of its URL
abbrev pub repo_fault : UrlFault → RepoFault
repo_fault url.BadUrl = BadUrl
repo_fault url.NoFragment = NoFragment
repo_fault url.Memory = Memory

-- the blocks with one more, unless its key is there already
abbrev pub put : Blocks → List ℕ → List ℕ → Result Blocks RepoFault
put blocks bytes key =
    if is_some (block_at blocks key) then Err Repeated else Ok (blocks ++ (key, bytes) ∷ [])

-- the blocks with one more, whose key is the text of its URL; or why it is refused
abbrev pub added : Blocks → List ℕ → List ℕ → Result Blocks RepoFault
added blocks url bytes = result_map_both (λ key. key) repo_fault (key_of url) >>= put blocks bytes
