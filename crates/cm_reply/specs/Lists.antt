-- Promised.
-- Texts of lists, and of what may be missing.
use Rattle.std.specs.Prelude.{ℕ, List, [], ◌∷◌, ◌++◌, flat_map, codes, Bool, true, false}
use Rattle.std.specs.Prelude.{Option, Some, None}

-- a text, as the list of its bytes
abbrev pub TextBytes : Type 0
TextBytes = List ℕ

-- the text of each item, each with that mark before it
abbrev pub each_behind : {A : Type 0} → TextBytes → (A → TextBytes) → List A → TextBytes
each_behind mark text items = flat_map (λ item. mark ++ text item) items

-- the texts of the items, with that mark between them
abbrev pub joined_by : {A : Type 0} → TextBytes → (A → TextBytes) → List A → TextBytes
joined_by mark text [] = []
joined_by mark text (item ∷ items) = text item ++ each_behind mark text items

-- the text of each item between brackets, with a space before them
abbrev pub bracketed : {A : Type 0} → (A → TextBytes) → List A → TextBytes
bracketed text items = flat_map (λ item. codes " [" ++ (text item ++ codes "]")) items

-- the text of each item on a line of its own, which begins with two spaces
abbrev pub further_lines : {A : Type 0} → (A → TextBytes) → List A → TextBytes
further_lines text items = each_behind (codes "\n  ") text items

-- the text, where the flag is true; else none
abbrev pub when : Bool → TextBytes → TextBytes
when true text = text
when false text = []

-- the text of the value, if there is one; else none
abbrev pub when_some : {A : Type 0} → (A → TextBytes) → Option A → TextBytes
when_some text None = []
when_some text (Some item) = text item
