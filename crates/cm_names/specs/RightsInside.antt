-- Inside.
-- What single words say of single rights, and that words are read back.
use Rattle.std.specs.Prelude.{◌≡◌, ◌≢◌, ℕ, List, Bool}
use Rattle.std.specs.Prelude.{false, Option, Some, None, Result, Ok}
use Rattle.std.specs.Prelude.{Err}
use Rattle.std.specs.Option.{option_map_or}
use Rattle.cm_names.specs.declared.rights.Right.{Right}
use Rattle.cm_names.specs.declared.rights.RightsFault.{RightsFault}
use Rattle.cm_names.specs.Rights.{RightSet, no_rights, has, rights_of_word, rights_of, words_of}

-- whether a word stands for rights among which this one is
abbrev pub word_has : Right → List ℕ → Bool
word_has right word = option_map_or (λ r. has r right) (rights_of_word word) false

-- the rights that words were read as, where they have no fault
abbrev pub rights_if_faultless : Result RightSet RightsFault → Option RightSet
rights_if_faultless (Ok r) = Some r
rights_if_faultless (Err e) = None

-- the words that are written for some rights are read as these
abbrev pub WordsAreReadBack : Type 0
WordsAreReadBack = (r : RightSet) → r ≢ no_rights → rights_of (words_of r) ≡ Ok r
