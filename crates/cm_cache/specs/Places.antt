-- Inside.
-- How a cache finds its answers: an index by instance and path.
use Rattle.std.specs.Prelude.{◌≡◌, ℕ, ◌+◌, List, [], ◌∷◌, Bool, Option, Some, None, option_map}
use Rattle.std.specs.Prelude.{option_and_then, if◌then◌else◌}
use Rattle.std.specs.Ordering.{nat_cmp}
use Rattle.std.specs.Cmp.Lexicographic.{slice_cmp}
use Rattle.std.specs.BTreeMap.{BTreeMap, get}
use Rattle.std.specs.Str.{bytes_eq}
use Rattle.cm_cache.specs.declared.cache.Cache.TheInside.{Inside}
use Rattle.cm_cache.specs.declared.places.Paths.{Paths}
use Rattle.cm_cache.specs.AnswersInside.{is_of}

-- the place of the answer for a path, in the index of one instance: of the use that was asked for first, or
-- of another one
abbrev pub place_at : Paths → List ℕ → Option ℕ
place_at paths path =
    if bytes_eq paths.first path then Some paths.place else get (slice_cmp nat_cmp) paths.others path

-- the place of the answer for the use of a path by instance i, in the whole index
abbrev pub placed : BTreeMap ℕ Paths → ℕ → List ℕ → Option ℕ
placed places i path = option_and_then (λ paths. place_at paths path) (get nat_cmp places i)

-- the place of the first item that passes a test, counted from 0
abbrev pub place_of : {A : Type 0} → (A → Bool) → List A → Option ℕ
place_of passes [] = None
place_of passes (x ∷ xs) = if passes x then Some 0 else option_map (λ n. n + 1) (place_of passes xs)

-- what always holds of a cache: its index has each use's answer at its place
pub record IsIndexedByUse (a : Inside) : Type 0 where
  pub each : (i : ℕ) (path : List ℕ) → placed a.places i path ≡ place_of (is_of i path) a.answers.items
