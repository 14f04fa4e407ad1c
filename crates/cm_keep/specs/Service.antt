-- Inside.
-- Whether the words of a run have a journal kept, and what is told where it can't be.
use Rattle.std.specs.Prelude.{◌≡◌, ◌⊎◌, List, Option, Some, None, Ok}
use Rattle.cm_reply.specs.Lists.{TextBytes}
use Rattle.cm_call.specs.Calls.{words_of}
use Rattle.cm_call.specs.declared.call.Call.TheVariants as call
use Rattle.cm_call.specs.declared.call.ServeOptions.{ServeOptions}
use Rattle.cm_keep.specs.Files.{IsFaultLine}
use Rattle.cm_keep.specs.declared.service.Keeping.{Keeping}
use Rattle.cm_keep.specs.declared.service.Unkept.{Unkept}
use Rattle.cm_keep.specs.declared.service.Unkept.TheVariants as unkept

-- a journal is kept where a place for it is told and the words are those of `serve`; it has that
-- realm's root
abbrev pub Plans : List TextBytes → Option TextBytes → Option Keeping → Type 0
Plans words at (Some k) =
    (at ≡ Some k.at) × (o : ServeOptions) × (words_of words ≡ Ok (call.Serve o)) × (k.root ≡ o.root)
Plans words at None = (at ≡ None) ⊎ ((o : ServeOptions) → words_of words ≡ Ok (call.Serve o) → ⊥)

-- why these words aren't run with this place for a journal: memory ran out; or one is to be kept of them,
-- and a line tells of a fault with it
abbrev pub SaysWhyUnready : List TextBytes → Option TextBytes → Unkept → Type 0
SaysWhyUnready words at unkept.Memory = Unit {0}
SaysWhyUnready words at (unkept.Said line) = (k : Keeping) × Plans words at (Some k) × IsFaultLine k.at line
