-- Promised.
-- What is known of the bytes of a source or a sink, and which lines stand on the error stream.
use Rattle.std.specs.Prelude.{◌≡◌, ◌⊎◌, ℕ, List, take, codes, Option, Some, None}
use Rattle.std.specs.Io.KnownBytes.{Appends, Keeps}
use Rattle.cm_io.specs.Outside.{Rose}

-- P holds of the bytes, where they are known
abbrev pub OfKnown : (List ℕ → Type 0) → Option (List ℕ) → Type 0
OfKnown P None = Unit {0}
OfKnown P (Some bytes) = P bytes

-- P holds of the bytes; where they aren't known, of some bytes
abbrev pub OfSome : (List ℕ → Type 0) → Option (List ℕ) → Type 0
OfSome P None = (bytes : List ℕ) × P bytes
OfSome P (Some bytes) = P bytes

-- what was written grew by a prefix of this text, as far as it is known
abbrev pub AppendsPrefix : Option (List ℕ) → Option (List ℕ) → List ℕ → Type 0
AppendsPrefix old new text = (n : ℕ) × Appends old new (take n text)

-- the line on the error stream where the words ask for nothing (status 2)
abbrev pub usage_line : List ℕ
usage_line = codes "usage: run, check, serve, audit, generate, environments, storage\n"

-- the line on the error stream where the input failed (status 3)
abbrev pub read_fault_line : List ℕ
read_fault_line = codes "read fault\n"

-- the line on the error stream where the door failed (status 5)
abbrev pub door_fault_line : List ℕ
door_fault_line = codes "door fault\n"

-- the line on the error stream where memory ran out (status 6)
abbrev pub want_line : List ℕ
want_line = codes "want of memory\n"

module _ {E : Type 0} (written_of : E → Option (List ℕ)) (faults_of : E → ℕ) where
  -- the whole line was written; or the sink failed, and a prefix of it was
  abbrev pub IsSaid : E → E → List ℕ → Type 0
  IsSaid old new line =
      Appends (written_of old) (written_of new) line
      ⊎ (Rose (faults_of old) (faults_of new) × AppendsPrefix (written_of old) (written_of new) line)

  -- what is said on the error stream at a status: a line of its own at 2, 3, 5 and 6, and nothing at 0, 1
  -- and 4
  pub record SaysOnErr (old new : E) (status : ℕ) : Type 0 where
    pub usage : status ≡ 2 → IsSaid old new usage_line
    pub read : status ≡ 3 → IsSaid old new read_fault_line
    pub door : status ≡ 5 → IsSaid old new door_fault_line
    pub memory : status ≡ 6 → IsSaid old new want_line
    pub nothing : (status ≡ 0) ⊎ ((status ≡ 1) ⊎ (status ≡ 4)) → Keeps (written_of old) (written_of new)
