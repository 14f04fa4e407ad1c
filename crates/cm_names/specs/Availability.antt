-- Promised.
-- Which availability is enough for which, and the words for availability and dependency.
use Rattle.std.specs.Prelude.{ℕ, List, codes, Bool, true, false, not, Option, Some, None}
use Rattle.cm_names.specs.declared.availability.Availability.{Availability}
use Rattle.cm_names.specs.declared.availability.Availability.TheVariants.{Required, Optional}
use Rattle.cm_names.specs.declared.availability.Availability.TheVariants.{Transitional, SameAsTarget}
use Rattle.cm_names.specs.declared.dependency.Dependency.{Dependency}
use Rattle.cm_names.specs.declared.dependency.Dependency.TheVariants.{Strong, Weak}

-- whether the first asks for more than the second; one that takes over its target's asks for no more
-- and no less than any
abbrev pub is_stronger : Availability → Availability → Bool
is_stronger Required Optional = true
is_stronger Required Transitional = true
is_stronger Optional Transitional = true
is_stronger _ _ = false

-- whether what is given is available enough for what is asked
abbrev pub fits : Availability → Availability → Bool
fits asked given = not (is_stronger asked given)

-- whether what is asked for so may be left out, and come from void
abbrev pub allows_void : Availability → Bool
allows_void Optional = true
allows_void Transitional = true
allows_void _ = false

-- an availability that is stated itself, and isn't taken over from the target
abbrev pub stated_itself : Availability → Option Availability
stated_itself SameAsTarget = None
stated_itself a = Some a

-- the word of a manifest for an availability
abbrev pub availability_word : Availability → List ℕ
availability_word Required = codes "required"
availability_word Optional = codes "optional"
availability_word Transitional = codes "transitional"
availability_word SameAsTarget = codes "same_as_target"

-- the word of a manifest for a dependency
abbrev pub dependency_word : Dependency → List ℕ
dependency_word Strong = codes "strong"
dependency_word Weak = codes "weak"
