-- Inside.
-- What holds of declarations, as a statement.
use Rattle.std.specs.Prelude.{IsTrue, ◌⊎◌}
use Rattle.cm_decl.specs.declared.decl.Decl.{Decl}
use Rattle.cm_decl.specs.Faults.{DeclFault}
use Rattle.cm_decl.specs.Valid.{IsValid, IsDeclFault, is_well_formed}

-- a well-formed declaration is valid or has a fault that is told
abbrev pub EachIsValidOrHasAFault : Type 0
EachIsValidOrHasAFault = (d : Decl) → IsTrue (is_well_formed d) → IsValid d ⊎ ((f : DeclFault)
    × IsDeclFault d f)
