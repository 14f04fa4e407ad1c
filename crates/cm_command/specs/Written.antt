-- Promised.
-- How the parts of commands are written, and which of them can be.
use Rattle.std.specs.Prelude.{◌≡◌, ◌≢◌, ◌<◌, ◌≤◌, ◌^◌, List, [], ◌∷◌, ◌++◌, length, codes, decimal}
use Rattle.std.specs.Prelude.{if◌then◌else◌, Option, Some, None, All, IfSome, IsTrue}
use Rattle.std.specs.Str.{bytes_eq}
use Rattle.cm_names.specs.declared.availability.Availability.{Availability}
use Rattle.cm_names.specs.declared.availability.Availability.TheVariants as availability
use Rattle.cm_names.specs.declared.dependency.Dependency.{Dependency}
use Rattle.cm_names.specs.declared.dependency.Dependency.TheVariants as dependency
use Rattle.cm_names.specs.Name.{IsName}
use Rattle.cm_names.specs.Path.{is_subdir}
use Rattle.cm_names.specs.Child.{child_text}
use Rattle.cm_names.specs.Moniker.{IsChildName, moniker_text}
use Rattle.cm_names.specs.Rights.{RightSet, text_of, no_rights}
use Rattle.cm_decl.specs.declared.kind.Kind.{Kind}
use Rattle.cm_decl.specs.declared.kind.Kind.TheVariants as kind
use Rattle.cm_decl.specs.declared.origin.Origin.{Origin}
use Rattle.cm_decl.specs.declared.origin.Origin.TheVariants as origin
use Rattle.cm_decl.specs.declared.rows.Give.{Give}
use Rattle.cm_decl.specs.Words.{kind_word}
use Rattle.cm_world.specs.declared.event.Target.{Target}
use Rattle.cm_world.specs.declared.event.Target.TheVariants as target
use Rattle.cm_command.specs.Grammar.{LineBytes}

-- how an instance is named in a command
abbrev pub target_text : Target → LineBytes
target_text (target.Named m) = moniker_text m
target_text (target.Inc n) = codes "@" ++ decimal n

-- how a source is named in a command
abbrev pub origin_text : Origin → LineBytes
origin_text origin.Parent = codes "parent"
origin_text origin.Own = codes "self"
origin_text origin.Framework = codes "framework"
origin_text origin.Void = codes "void"
origin_text (origin.Child c) = codes "#" ++ child_text c

-- the word `as=..`, where the name at the target isn't that of the source
abbrev pub target_word : Give → List LineBytes
target_word g = if bytes_eq g.target_name g.source_name then [] else (codes "as=" ++ g.target_name) ∷ []

-- the word `rights=..`, where rights are stated
abbrev pub rights_word : Option RightSet → List LineBytes
rights_word None = []
rights_word (Some r) = (codes "rights=" ++ text_of r) ∷ []

-- the word `subdir=..`, where a subdirectory is stated
abbrev pub subdir_word : Option LineBytes → List LineBytes
subdir_word None = []
subdir_word (Some s) = (codes "subdir=" ++ s) ∷ []

-- the word for a dependency, where it isn't the default
abbrev pub dependency_word : Dependency → List LineBytes
dependency_word dependency.Strong = []
dependency_word dependency.Weak = codes "weak" ∷ []

-- the word for an availability, where it isn't the default
abbrev pub availability_word : Availability → List LineBytes
availability_word availability.Required = []
availability_word availability.Optional = codes "optional" ∷ []
availability_word availability.Transitional = codes "transitional" ∷ []
availability_word availability.SameAsTarget = codes "same_as_target" ∷ []

-- the words of a group, which gives this
abbrev pub give_words : Give → List LineBytes
give_words g =
    codes "+" ∷ kind_word g.kind ∷ g.source_name ∷ origin_text g.from
    ∷ (target_word g ++ (rights_word g.rights ++ (subdir_word g.subdir
    ++ (dependency_word g.dependency ++ availability_word g.availability))))

-- a word after a space
abbrev pub spaced : LineBytes → LineBytes
spaced w = 32 ∷ w

-- ---- which commands a line can ask for

-- an instance that a word can name: by a moniker of at most 4,096 bytes, or by an incarnation of 64
-- bits
abbrev pub IsTarget : Target → Type 0
IsTarget (target.Named m) = All IsChildName m.parts × (length (moniker_text m) ≤ 4096)
IsTarget (target.Inc n) = n < 2 ^ 64

-- a source that a word can name: a child's name, and its collection's, are names
abbrev pub IsWritableOrigin : Origin → Type 0
IsWritableOrigin (origin.Child c) = IsChildName c
IsWritableOrigin _ = Unit {0}

-- rights and subdirectories are stated for directories alone, and are proper ones
abbrev pub HasParts : Kind → Option RightSet → Option LineBytes → Type 0
HasParts kind.Protocol r s = (r ≡ None) × (s ≡ None)
HasParts kind.Directory r s = IfSome r (λ set. set ≢ no_rights) × IfSome s (λ t. IsTrue (is_subdir t))

-- an offer that a group of words can tell
pub record IsWritableGive (g : Give) : Type 0 where
  pub source_name : IsName g.source_name
  pub target_name : IsName g.target_name
  pub from : IsWritableOrigin g.from
  pub parts : HasParts g.kind g.rights g.subdir
