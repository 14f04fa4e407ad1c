-- Inside.
-- Kinds of words, which readers tell apart.
use Rattle.std.specs.Prelude.{◌≡◌, ℕ, List, [], ◌∷◌, codes, false}
use Rattle.std.specs.Prelude.{Contains}
use Rattle.std.specs.List.{list_any}
use Rattle.std.specs.Str.{bytes_eq}
use Rattle.cm_names.specs.declared.child.ChildName.{ChildName}
use Rattle.cm_decl.specs.declared.origin.Origin.TheVariants.{Child}
use Rattle.cm_world.specs.declared.event.Target.TheVariants.{Inc}
use Rattle.cm_command.specs.Words.{IsTargetText, IsOriginText}

-- `@` and the number of some incarnation
abbrev pub IsIncarnation : List ℕ → Type 0
IsIncarnation t = (n : ℕ) × IsTargetText t (Inc n)

-- the words for sources that aren't children
abbrev pub origin_words : List (List ℕ)
origin_words = codes "parent" ∷ codes "self" ∷ codes "framework" ∷ codes "void" ∷ []

-- `#` and the name of some child
abbrev pub IsChildOrigin : List ℕ → Type 0
IsChildOrigin t = (c : ChildName) × IsOriginText t (Child c)

-- all words that stand for rights
abbrev pub right_words : List (List ℕ)
right_words =
    codes "connect" ∷ codes "enumerate" ∷ codes "execute" ∷ codes "get_attributes" ∷ codes "modify_directory"
    ∷ codes "r*" ∷ codes "read_bytes" ∷ codes "rw*" ∷ codes "rx*" ∷ codes "traverse"
    ∷ codes "update_attributes" ∷ codes "w*" ∷ codes "write_bytes" ∷ codes "x*" ∷ []

-- a word for rights that isn't among the used ones
abbrev pub IsUnused : List (List ℕ) → List ℕ → Type 0
IsUnused used t = Contains right_words t × (list_any (bytes_eq t) used ≡ false)
