-- Promised.
-- The faults of a declaration, and the first of them. Their order is this project's own.
use Rattle.std.specs.Prelude.{◌≡◌, ℕ, ◌<◌, List, [], Option, IsTrue, ◌⊎◌}
use Rattle.cm_decl.specs.declared.decl.Decl.{Decl}
use Rattle.cm_decl.specs.declared.node.Node.{Node}
use Rattle.cm_decl.specs.declared.section.Section.{Section}
use Rattle.cm_decl.specs.declared.section.Section.TheVariants.{Manifest, Program, Children, Collections}
use Rattle.cm_decl.specs.declared.section.Section.TheVariants.{Capabilities, Uses, Offers, Exposes}
use Rattle.cm_decl.specs.declared.section.Section.TheVariants.{Environments, Graph}
use Rattle.cm_decl.specs.Rules.{Rule, number_of}
use Rattle.cm_decl.specs.Clashes.{RowPlace, clash}
use Rattle.cm_decl.specs.Breaks.{breaks}

-- what is told of a declaration that isn't valid: the fault's number, its row, the row that this
-- clashes with, and the nodes of a cycle
pub record DeclFault : Type 0 where
  pub number : ℕ
  pub section : Section
  pub index : ℕ
  pub against : Option RowPlace
  pub cycle : List Node

-- the declaration has this fault: its row breaks the rule of its number
pub record IsBroken (d : Decl) (f : DeclFault) : Type 0 where
  pub rule : Rule
  pub broken : IsTrue (breaks d rule f.section f.index)
  pub numbered : f.number ≡ number_of rule
  pub clashing : f.against ≡ clash d rule f.section f.index
  pub no_cycle : f.cycle ≡ []

-- the order in which the faults of sections are told
abbrev pub section_rank : Section → ℕ
section_rank Manifest = 0
section_rank Program = 1
section_rank Children = 2
section_rank Collections = 3
section_rank Capabilities = 4
section_rank Uses = 5
section_rank Offers = 6
section_rank Exposes = 7
section_rank Environments = 8
section_rank Graph = 9

-- the first fault is told before the second: by section, then by index, then by number
abbrev pub IsBefore : DeclFault → DeclFault → Type 0
IsBefore f g =
    (section_rank f.section < section_rank g.section) ⊎
    ((section_rank f.section ≡ section_rank g.section) ×
    ((f.index < g.index) ⊎ ((f.index ≡ g.index) × (f.number < g.number))))

-- the declaration has this fault, and none before it
pub record IsFirst (d : Decl) (f : DeclFault) : Type 0 where
  pub stands : IsBroken d f
  pub none_before : (g : DeclFault) → IsBroken d g → IsBefore g f → ⊥

-- no row of the declaration breaks a rule
abbrev pub IsFaultless : Decl → Type 0
IsFaultless d = (f : DeclFault) → IsBroken d f → ⊥
