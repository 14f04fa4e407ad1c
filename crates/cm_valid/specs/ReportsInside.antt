-- Inside.
-- What the check of a declaration promises of the fault that it returns.
use Rattle.std.specs.Prelude.{◌≡◌, ◌≢◌}
use Rattle.cm_decl.specs.declared.decl.Decl.{Decl}
use Rattle.cm_decl.specs.Faults.{DeclFault}
use Rattle.cm_decl.specs.Valid.{IsDeclFault}
use Rattle.cm_valid.specs.declared.fault.ValidFault.{ValidFault}
use Rattle.cm_valid.specs.declared.fault.ValidFault.TheVariants.{Memory}
use Rattle.cm_valid.specs.Reports.{reported}

-- the answer is the declaration's fault as it is told, unless memory ran out
abbrev pub Reports : Decl → ValidFault → Type 0
Reports d answer = answer ≢ Memory → (f : DeclFault) × IsDeclFault d f × (answer ≡ reported f)
