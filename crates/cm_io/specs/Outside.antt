-- Promised.
-- What the calls on a source or a sink do: how the bytes move, and that a failure is counted.
use Rattle.std.specs.Prelude.{◌≡◌, ℕ, ◌<◌, ◌≤◌, List, length, take, Option}
use Rattle.std.specs.Io.KnownBytes.{Appends, Consumes, IsAtEnd, Keeps}
use Rattle.cm_io.specs.Counts.{one_more}
use Rattle.cm_io.specs.declared.source.Got.{Got}
use Rattle.cm_io.specs.declared.source.Got.TheVariants as got
use Rattle.cm_io.specs.declared.sink.Took.{Took}
use Rattle.cm_io.specs.declared.sink.Took.TheVariants as took

-- a count of faults rose; it stops at 2^64 - 1, and staying there counts as rising
abbrev pub Rose : ℕ → ℕ → Type 0
Rose before now = one_more before ≤ now

-- what a read does to the bytes that the source has left, where those are known
abbrev pub ReadsBytes : Option (List ℕ) → Option (List ℕ) → List ℕ → Got → Type 0
ReadsBytes old new into (got.Bytes n) = (0 < n) × (n ≤ length into) × Consumes old new (take n into)
ReadsBytes old new into got.End = Keeps old new × IsAtEnd new
ReadsBytes old new into got.Failed = Keeps old new

-- what a write does to the bytes that were written, where those are known
abbrev pub Writes : Option (List ℕ) → Option (List ℕ) → List ℕ → Took → Type 0
Writes old new bytes (took.Bytes n) = (0 < n) × (n ≤ length bytes) × Appends old new (take n bytes)
Writes old new bytes took.Failed = Keeps old new

-- what a read adds to the bytes that the source gave, where those are told
abbrev pub Gave : Option (List ℕ) → Option (List ℕ) → List ℕ → Got → Type 0
Gave old new into (got.Bytes n) = Appends old new (take n into)
Gave old new into got.End = Keeps old new
Gave old new into got.Failed = Keeps old new

-- what an object tells as a source: the bytes that are left, those that it gave so far, and how often
-- it failed
pub record AsSource : Type 0 where
  pub left : Option (List ℕ)
  pub given : Option (List ℕ)
  pub faults : ℕ

-- what an object tells as a sink: the bytes that were written, and how often it failed
pub record AsSink : Type 0 where
  pub written : Option (List ℕ)
  pub faults : ℕ

-- P holds of the number of bytes that a write took; never of a write that failed
abbrev pub TookAnd : Took → (ℕ → Type 0) → Type 0
TookAnd (took.Bytes n) P = P n
TookAnd took.Failed P = ⊥

-- a read that failed is counted, and no other
abbrev pub ReadCause : ℕ → ℕ → Got → Type 0
ReadCause before now got.Failed = (before ≤ now) × (now ≡ one_more before)
ReadCause before now (got.Bytes n) = now ≡ before
ReadCause before now got.End = now ≡ before

-- a write that failed is counted, and no other
abbrev pub WriteCause : ℕ → ℕ → Took → Type 0
WriteCause before now took.Failed = (before ≤ now) × (now ≡ one_more before)
WriteCause before now (took.Bytes n) = now ≡ before
