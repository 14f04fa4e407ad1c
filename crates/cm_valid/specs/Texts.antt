-- Promised.
-- How a fault of a declaration is printed.
use Rattle.std.specs.Prelude.{ℕ, List, [], ◌++◌, codes, decimal, flat_map, Option, Some, None}
use Rattle.cm_decl.specs.declared.node.Node.{Node}
use Rattle.cm_decl.specs.declared.section.Section.{Section}
use Rattle.cm_decl.specs.Words.{section_word, node_text}
use Rattle.cm_valid.specs.declared.fault.ValidFault.{ValidFault}
use Rattle.cm_valid.specs.declared.fault.ValidFault.TheVariants.{Bad, Memory}

-- a space, the section and the index of the row that a fault clashes with, where there is one
abbrev pub against_text : Option (Section × ℕ) → List ℕ
against_text None = []
against_text (Some place) = codes " " ++ (section_word place.0 ++ (codes " " ++ decimal place.1))

-- a space and a node
abbrev pub spaced : Node → List ℕ
spaced node = codes " " ++ node_text node

-- the nodes of a cycle, each after a space
abbrev pub cycle_text : List Node → List ℕ
cycle_text cycle = flat_map spaced cycle

-- a fault as it is printed: `invalid NUMBER SECTION INDEX`, then the row that it clashes with and the
-- nodes of a cycle, where there are some
abbrev pub fault_text : ValidFault → List ℕ
fault_text (Bad number section index against cycle) =
    codes "invalid " ++ (decimal number ++ (codes " " ++ (section_word section
    ++ (codes " " ++ (decimal index ++ (against_text against ++ cycle_text cycle))))))
fault_text Memory = codes "out of memory"
