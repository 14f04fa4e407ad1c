-- Inside.
-- That reading and writing declarations fit, as statements.
use Rattle.std.specs.Prelude.{◌≡◌, ℕ, List}
use Rattle.std.specs.Prelude.{Ok, IsTrue}
use Rattle.cm_decl.specs.declared.decl.Decl.{Decl}
use Rattle.cm_decl.specs.Valid.{is_well_formed}
use Rattle.cm_read.specs.Manifest.{decl_of_json}
use Rattle.cm_write.specs.Writing.{decl_text}
use Rattle.cm_read.specs.Readable.{IsReadable}

-- the text of a readable declaration is read as that declaration
abbrev pub TextsAreReadBack : Type 0
TextsAreReadBack = (d : Decl) → IsReadable d → decl_of_json (decl_text d) ≡ Ok d

-- every declaration that is read is readable
abbrev pub WhatIsReadIsReadable : Type 0
WhatIsReadIsReadable = (text : List ℕ) (d : Decl) → decl_of_json text ≡ Ok d → IsReadable d

-- what is read is read back from the text that is written of it
abbrev pub WhatIsReadIsReadBack : Type 0
WhatIsReadIsReadBack =
    (text : List ℕ) (d : Decl) → decl_of_json text ≡ Ok d → decl_of_json (decl_text d) ≡ Ok d

-- the sources and targets of a readable declaration are of the sorts that their sections allow
abbrev pub ReadableIsWellFormed : Type 0
ReadableIsWellFormed = (d : Decl) → IsReadable d → IsTrue (is_well_formed d)
