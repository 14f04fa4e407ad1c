-- Inside.
-- The first fault of a part of a declaration.
use Rattle.std.specs.Prelude.{Option, Some, None}
use Rattle.cm_decl.specs.declared.decl.Decl.{Decl}
use Rattle.cm_decl.specs.Faults.{DeclFault, IsBroken, IsBefore}

-- the first of the faults in a part of the declaration, for which In holds; or none, where there is
-- none
abbrev pub IsFirstIn : Decl → (DeclFault → Type 0) → Option DeclFault → Type 0
IsFirstIn d In None = (g : DeclFault) → IsBroken d g → In g → ⊥
IsFirstIn d In (Some f) = IsBroken d f × In f × ((g : DeclFault) → IsBroken d g → In g → IsBefore g f → ⊥)
