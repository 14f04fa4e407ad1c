-- Promised.
-- Rights, and the words that stand for them.
use Rattle.std.specs.Prelude.{ℕ, min, List, [], ◌∷◌, ◌++◌, length, codes, map, filter, Bool, true}
use Rattle.std.specs.Prelude.{false, not, ◌||◌, if◌then◌else◌, Option, Some, None, option_map, Result, Ok}
use Rattle.std.specs.Prelude.{Err}
use Rattle.std.specs.List.{list_all, list_any, join_with_byte}
use Rattle.std.specs.Str.{bytes_eq}
use Rattle.cm_names.specs.declared.rights.Right.{Right}
use Rattle.cm_names.specs.declared.rights.Right.TheVariants.{Connect, Enumerate, Execute, GetAttributes}
use Rattle.cm_names.specs.declared.rights.Right.TheVariants.{ModifyDirectory, ReadBytes, Traverse}
use Rattle.cm_names.specs.declared.rights.Right.TheVariants.{UpdateAttributes, WriteBytes}
use Rattle.cm_names.specs.declared.rights.RightsFault.{RightsFault}
use Rattle.cm_names.specs.declared.rights.RightsFault.TheVariants.{Empty, UnknownRight, RepeatedRight}

-- a set of the nine rights to a directory: which of them are in it
pub record RightSet : Type 0 where
  pub connect : Bool
  pub enumerate : Bool
  pub execute : Bool
  pub get_attributes : Bool
  pub modify_directory : Bool
  pub read_bytes : Bool
  pub traverse : Bool
  pub update_attributes : Bool
  pub write_bytes : Bool

-- the set of no right
abbrev pub no_rights : RightSet
no_rights = record {
  connect = false;
  enumerate = false;
  execute = false;
  get_attributes = false;
  modify_directory = false;
  read_bytes = false;
  traverse = false;
  update_attributes = false;
  write_bytes = false;
}

-- the rights that are in either set
abbrev pub union : RightSet → RightSet → RightSet
union a b = record {
  connect = a.connect || b.connect;
  enumerate = a.enumerate || b.enumerate;
  execute = a.execute || b.execute;
  get_attributes = a.get_attributes || b.get_attributes;
  modify_directory = a.modify_directory || b.modify_directory;
  read_bytes = a.read_bytes || b.read_bytes;
  traverse = a.traverse || b.traverse;
  update_attributes = a.update_attributes || b.update_attributes;
  write_bytes = a.write_bytes || b.write_bytes;
}

-- whether the second holds where the first does
abbrev pub implies : Bool → Bool → Bool
implies a b = not a || b

-- ---- single rights

-- the nine rights in their order
abbrev pub all_rights : List Right
all_rights =
    Connect ∷ Enumerate ∷ Execute ∷ GetAttributes ∷ ModifyDirectory ∷ ReadBytes ∷ Traverse ∷ UpdateAttributes
    ∷ WriteBytes ∷ []

-- the word for a right
abbrev pub word_of : Right → List ℕ
word_of Connect = codes "connect"
word_of Enumerate = codes "enumerate"
word_of Execute = codes "execute"
word_of GetAttributes = codes "get_attributes"
word_of ModifyDirectory = codes "modify_directory"
word_of ReadBytes = codes "read_bytes"
word_of Traverse = codes "traverse"
word_of UpdateAttributes = codes "update_attributes"
word_of WriteBytes = codes "write_bytes"

-- whether a right is in a set
abbrev pub has : RightSet → Right → Bool
has r Connect = r.connect
has r Enumerate = r.enumerate
has r Execute = r.execute
has r GetAttributes = r.get_attributes
has r ModifyDirectory = r.modify_directory
has r ReadBytes = r.read_bytes
has r Traverse = r.traverse
has r UpdateAttributes = r.update_attributes
has r WriteBytes = r.write_bytes

-- the set of this right, where the flag is true; else the empty set
abbrev pub only_if : Bool → Right → RightSet
only_if b Connect = record no_rights { connect = b }
only_if b Enumerate = record no_rights { enumerate = b }
only_if b Execute = record no_rights { execute = b }
only_if b GetAttributes = record no_rights { get_attributes = b }
only_if b ModifyDirectory = record no_rights { modify_directory = b }
only_if b ReadBytes = record no_rights { read_bytes = b }
only_if b Traverse = record no_rights { traverse = b }
only_if b UpdateAttributes = record no_rights { update_attributes = b }
only_if b WriteBytes = record no_rights { write_bytes = b }

-- the set of this right alone
abbrev pub only : Right → RightSet
only right = only_if true right

-- whether each right of the second set is in the first
abbrev pub contains : RightSet → RightSet → Bool
contains a b = list_all (λ right. implies (has b right) (has a right)) all_rights

-- ---- the table of words

-- the rights that `r*`, `w*` and `x*` have in common
abbrev pub walking : RightSet
walking = record no_rights { connect = true; enumerate = true; traverse = true }

-- the rights that `r*` stands for
abbrev pub reading : RightSet
reading = record walking { read_bytes = true; get_attributes = true }

-- the rights that `w*` stands for
abbrev pub writing : RightSet
writing = record walking { write_bytes = true; modify_directory = true; update_attributes = true }

-- the rights that `x*` stands for
abbrev pub executing : RightSet
executing = record walking { execute = true }

-- the right of this name, if there is one
abbrev pub right_named : List ℕ → Option Right
right_named t =
    if bytes_eq t (codes "connect") then Some Connect
    else if bytes_eq t (codes "enumerate") then Some Enumerate
    else if bytes_eq t (codes "execute") then Some Execute
    else if bytes_eq t (codes "get_attributes") then Some GetAttributes
    else if bytes_eq t (codes "modify_directory") then Some ModifyDirectory
    else if bytes_eq t (codes "read_bytes") then Some ReadBytes
    else if bytes_eq t (codes "traverse") then Some Traverse
    else if bytes_eq t (codes "update_attributes") then Some UpdateAttributes
    else if bytes_eq t (codes "write_bytes") then Some WriteBytes
    else None

-- the rights that a word stands for, if it does: one right, or one of the short words
unfoldable pub rights_of_word : List ℕ → Option RightSet
rights_of_word t =
    if bytes_eq t (codes "r*") then Some reading
    else if bytes_eq t (codes "w*") then Some writing
    else if bytes_eq t (codes "x*") then Some executing
    else if bytes_eq t (codes "rw*") then Some (union reading writing)
    else if bytes_eq t (codes "rx*") then Some (union reading executing)
    else option_map only (right_named t)

-- ---- lists of words

-- an index as faults tell it, kept within 32 bits
abbrev pub index_of : ℕ → ℕ
index_of n = min n 4294967295

-- these rights and those of other words, where the others have no fault
abbrev pub with_rights : RightSet → Result RightSet RightsFault → Result RightSet RightsFault
with_rights r (Ok others) = Ok (union r others)
with_rights r (Err e) = Err e

-- the rights of one more word and the others that follow it, or the word's fault: unknown, or repeated
-- after earlier ones
abbrev pub with_word : List (List ℕ) → List ℕ → Option RightSet → Result RightSet RightsFault
    → Result RightSet RightsFault
with_word earlier word None others = Err (UnknownRight (index_of (length earlier)))
with_word earlier word (Some r) others =
    if list_any (bytes_eq word) earlier then Err (RepeatedRight (index_of (length earlier)))
    else with_rights r others

-- the rights of words that come after the earlier ones, or their first fault
abbrev pub rights_behind : List (List ℕ) → List (List ℕ) → Result RightSet RightsFault
rights_behind earlier [] = Ok no_rights
rights_behind earlier (word ∷ rest) =
    with_word earlier word (rights_of_word word) (rights_behind (earlier ++ word ∷ []) rest)

-- the rights that a list of words stands for, or its first fault
unfoldable pub rights_of : List (List ℕ) → Result RightSet RightsFault
rights_of [] = Err Empty
rights_of (word ∷ rest) = rights_behind [] (word ∷ rest)

-- the words for the rights in a set, in their order
abbrev pub words_of : RightSet → List (List ℕ)
words_of r = map word_of (filter (has r) all_rights)

-- the words for the rights in a set, joined by commas
abbrev pub text_of : RightSet → List ℕ
text_of r = join_with_byte 44 (words_of r)
