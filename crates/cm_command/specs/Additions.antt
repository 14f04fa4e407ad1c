-- Inside.
-- The words that may follow the origin of a group, by which `create` offers something to the new
-- child.
use Rattle.std.specs.Prelude.{◌≡◌, ℕ, ◌≤◌, List, ◌++◌, codes, IsTrue}
use Rattle.cm_names.specs.Name.{IsName}
use Rattle.cm_names.specs.Path.{is_subdir}
use Rattle.cm_names.specs.Rights.{RightSet}
use Rattle.cm_decl.specs.declared.kind.Kind.{Kind}
use Rattle.cm_decl.specs.declared.kind.Kind.TheVariants.{Directory}
use Rattle.cm_command.specs.declared.addition.Addition.{Addition}
use Rattle.cm_command.specs.declared.addition.Addition.TheVariants.{Target, Rights, Subdir, Weak, Optional}
use Rattle.cm_command.specs.declared.addition.Addition.TheVariants.{Transitional, SameAsTarget, Group}
use Rattle.cm_command.specs.Words.{IsRightsText}

-- the word is `as=` and this name
abbrev pub IsTargetWord : List ℕ → List ℕ → Type 0
IsTargetWord t name = IsName name × (t ≡ codes "as=" ++ name)

-- the word is `rights=` and words for these rights
abbrev pub IsRightsWord : List ℕ → RightSet → Type 0
IsRightsWord t r = (words : List ℕ) × IsRightsText words r × (t ≡ codes "rights=" ++ words)

-- the word is `subdir=` and this subdirectory
abbrev pub IsSubdirWord : List ℕ → List ℕ → Type 0
IsSubdirWord t s = IsTrue (is_subdir s) × (t ≡ codes "subdir=" ++ s)

-- the word is this addition to a group of the kind, and one of those that may still come after n of
-- them; or it is `+`
abbrev pub IsAddition : ℕ → Kind → List ℕ → Addition → Type 0
IsAddition n kind t (Target name) = (n ≤ 0) × IsTargetWord t name
IsAddition n kind t (Rights r) = (n ≤ 1) × (kind ≡ Directory) × IsRightsWord t r
IsAddition n kind t (Subdir s) = (n ≤ 2) × (kind ≡ Directory) × IsSubdirWord t s
IsAddition n kind t Weak = (n ≤ 3) × (t ≡ codes "weak")
IsAddition n kind t Optional = (n ≤ 4) × (t ≡ codes "optional")
IsAddition n kind t Transitional = (n ≤ 4) × (t ≡ codes "transitional")
IsAddition n kind t SameAsTarget = (n ≤ 4) × (t ≡ codes "same_as_target")
IsAddition n kind t Group = t ≡ codes "+"

-- the word is some addition that may still come
abbrev pub IsSomeAddition : ℕ → Kind → List ℕ → Type 0
IsSomeAddition n kind t = (a : Addition) × IsAddition n kind t a
