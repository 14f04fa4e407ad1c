-- Inside.
-- All rules of rows, as a list.
use Rattle.std.specs.Prelude.{List, [], ◌∷◌}
use Rattle.cm_decl.specs.Rules.{Rule, RepeatedName, UnknownRef, NotDeclared, TargetIsSource, RepeatedTarget}
use Rattle.cm_decl.specs.Rules.{RepeatedPath, PathInside, RequiredVoid}

-- all rules of rows, in the order of their numbers
abbrev pub rules : List Rule
rules =
    RepeatedName ∷ UnknownRef ∷ NotDeclared ∷ TargetIsSource ∷ RepeatedTarget ∷ RepeatedPath ∷ PathInside
    ∷ RequiredVoid ∷ []
