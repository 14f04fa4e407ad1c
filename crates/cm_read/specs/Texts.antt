-- Promised.
-- How a fault of reading is printed.
use Rattle.std.specs.Prelude.{ℕ, List, [], ◌∷◌, ◌++◌, codes, decimal}
use Rattle.cm_decl.specs.Words.{section_word}
use Rattle.cm_read.specs.declared.fault.ReadFault.{ReadFault}
use Rattle.cm_read.specs.declared.fault.ReadFault.TheVariants.{Bad, Memory}

-- a space and the field's name, where a fault tells one
abbrev pub field_text : List ℕ → List ℕ
field_text [] = []
field_text (b ∷ bs) = codes " " ++ b ∷ bs

-- a fault as it is printed: `invalid NUMBER SECTION INDEX`, and the field where there is one
abbrev pub fault_text : ReadFault → List ℕ
fault_text (Bad number section index field) =
    codes "invalid " ++ (decimal number ++ (codes " " ++ (section_word section
    ++ (codes " " ++ (decimal index ++ field_text field)))))
fault_text Memory = codes "out of memory"
