-- Promised.
-- The fault of a declaration as it is told.
use Rattle.std.specs.Prelude.{option_map}
use Rattle.cm_names.specs.Rights.{index_of}
use Rattle.cm_decl.specs.Clashes.{RowPlace, place}
use Rattle.cm_decl.specs.Faults.{DeclFault}
use Rattle.cm_valid.specs.declared.fault.ValidFault.{ValidFault}
use Rattle.cm_valid.specs.declared.fault.ValidFault.TheVariants.{Bad}

-- the place of a row as it is told, with its index kept within 32 bits
abbrev pub place_of : RowPlace → RowPlace
place_of p = place p.0 (index_of p.1)

-- a fault as it is told
abbrev pub reported : DeclFault → ValidFault
reported f = Bad f.number f.section (index_of f.index) (option_map place_of f.against) f.cycle
