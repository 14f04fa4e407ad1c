-- Inside.
-- How many prefixes of a text some text of a kind begins with. That is where a fault tells that a line
-- goes wrong.
use Rattle.std.specs.Prelude.{◌≡◌, ℕ, ◌+◌, ◌<◌, ◌≤◌, ◌^◌, max, List, length, take}
use Rattle.cm_names.specs.Prefixes.{HasCompletion}
use Rattle.cm_command.specs.declared.tokens.WordFault.{WordFault}
use Rattle.cm_command.specs.declared.tokens.WordFault.TheVariants.{Bad, Memory}

-- exactly the first n prefixes of the text, the empty one among them, can be completed to a text of
-- the kind
pub record CountsPrefixes (P : List ℕ → Type 0) (t : List ℕ) (n : ℕ) : Type 0 where
  pub within : n ≤ length t + 1
  pub begins : (i : ℕ) → n ≡ i + 1 → HasCompletion P (take i t)
  pub stops : n ≤ length t → HasCompletion P (take n t) → ⊥

-- the fault of a word that isn't of the kind: how many of its prefixes can be completed; memory may
-- run out
abbrev pub IsWordFault : (List ℕ → Type 0) → List ℕ → WordFault → Type 0
IsWordFault P t (Bad n) = (P t → ⊥) × CountsPrefixes P t n
IsWordFault P t Memory = Unit {0}

-- the fault of a word that isn't of the kind, by a reader that takes no memory: how many of its
-- prefixes can be completed
abbrev pub IsSureFault : (List ℕ → Type 0) → List ℕ → WordFault → Type 0
IsSureFault P t (Bad n) = (P t → ⊥) × CountsPrefixes P t n
IsSureFault P t Memory = ⊥

-- the fault of a text whose last word, after so many bytes, has this fault
abbrev pub fault_behind : ℕ → WordFault → WordFault
fault_behind len (Bad n) = Bad (len + n)
fault_behind len Memory = Memory

-- the count of the fault stays in 64 bits after so many bytes
abbrev pub Fits : ℕ → WordFault → Type 0
Fits len (Bad n) = len + n < 2 ^ 64
Fits len Memory = Unit {0}

-- the fault of a word that may be of either of two kinds and is of none: the longer prefix counts
abbrev pub either_fault : WordFault → WordFault → WordFault
either_fault (Bad m) (Bad n) = Bad (max m n)
either_fault (Bad m) Memory = Memory
either_fault Memory e = Memory
