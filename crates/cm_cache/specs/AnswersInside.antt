-- Inside.
-- What contracts see of a cache: its answers, in the order in which their uses came.
use Rattle.std.specs.Prelude.{ℕ, List, [], ◌∷◌, ◌++◌, Bool, ◌&&◌, ◌==◌, Option, find, length, is_some, nat_le}
use Rattle.std.specs.Prelude.{option_map, if◌then◌else◌}
use Rattle.std.specs.Str.{bytes_eq}
use Rattle.cm_world.specs.declared.route.Walked.{Walked}
use Rattle.cm_world.specs.Edits.{edit_first}
use Rattle.cm_cache.specs.declared.answer.CachedAnswer.{CachedAnswer}
use Rattle.cm_cache.specs.Answers.{most}

-- what the walk from the use of a path by instance i came to, as it is kept
abbrev pub answer_of : ℕ → List ℕ → Walked → CachedAnswer
answer_of i path v = record { inc = i; path = path; walked = v }

-- whether a kept answer is for the use of this path by instance i
abbrev pub is_of : ℕ → List ℕ → CachedAnswer → Bool
is_of i path a = (a.inc == i) && bytes_eq a.path path

-- what is kept for the use of this path by instance i
abbrev pub kept_at : List CachedAnswer → ℕ → List ℕ → Option Walked
kept_at answers i path = option_map (λ a. a.walked) (find (is_of i path) answers)

-- the answers with one more; a full cache is emptied first
abbrev pub joined_by : CachedAnswer → List CachedAnswer → List CachedAnswer
joined_by a answers = if nat_le most (length answers) then a ∷ [] else answers ++ a ∷ []

-- a kept answer with what a later walk came to
abbrev pub with_walked : Walked → CachedAnswer → CachedAnswer
with_walked v a = record a { walked = v }

-- the answers after one was put: in the place of the one for the same use, else joined to the others
abbrev pub put_in : List CachedAnswer → ℕ → List ℕ → Walked → List CachedAnswer
put_in answers i path v =
    if is_some (kept_at answers i path) then edit_first (is_of i path) (with_walked v) answers
    else joined_by (answer_of i path v) answers
