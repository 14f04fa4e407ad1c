-- The first fault of the rows of a declaration, computed. Worked examples are proved by it.
use Rattle.std.specs.Prelude.{ℕ, zero, suc, [], Option, None, find, option_map, length}
use Rattle.cm_decl.specs.declared.decl.Decl.{Decl}
use Rattle.cm_decl.specs.declared.section.Section.{Section}
use Rattle.cm_decl.specs.declared.section.Section.TheVariants.{Children, Collections, Capabilities, Uses, Offers, Exposes}
use Rattle.cm_decl.specs.Rules.{Rule, number_of}
use Rattle.cm_decl.specs.RulesInside.{rules}
use Rattle.cm_decl.specs.Clashes.{clash, or_else}
use Rattle.cm_decl.specs.Breaks.{breaks}
use Rattle.cm_decl.specs.Faults.{DeclFault}

-- the fault of a row that breaks a rule
abbrev pub fault_by : Decl → Section → ℕ → Rule → DeclFault
fault_by d section i rule = record {
  number = number_of rule;
  section = section;
  index = i;
  against = clash d rule section i;
  cycle = [];
}

-- the first fault at a row
abbrev pub fault_at : Decl → Section → ℕ → Option DeclFault
fault_at d section i = option_map (fault_by d section i) (find (λ rule. breaks d rule section i) rules)

-- the first fault among the first n rows of a section
abbrev pub fault_below : Decl → Section → ℕ → Option DeclFault
fault_below d section zero = None
fault_below d section (suc n) = or_else (fault_below d section n) (fault_at d section n)

-- the first fault of all rows
abbrev pub first_fault : Decl → Option DeclFault
first_fault d =
    or_else (fault_below d Children (length d.children))
    (or_else (fault_below d Collections (length d.collections))
    (or_else (fault_below d Capabilities (length d.capabilities))
    (or_else (fault_below d Uses (length d.uses))
    (or_else (fault_below d Offers (length d.offers)) (fault_below d Exposes (length d.exposes))))))
