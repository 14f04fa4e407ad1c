-- Inside.
-- What functions over sources and sinks say of them.
use Rattle.std.specs.Prelude.{◌≡◌, ℕ, ◌<◌, ◌≤◌, Bool, true, false, List, length, take, Option, None}
use Rattle.std.specs.Io.KnownBytes.{Appends, Consumes}
use Rattle.cm_io.specs.Counts.{one_more}
use Rattle.cm_io.specs.declared.source.Got.{Got}
use Rattle.cm_io.specs.declared.source.Got.TheVariants as got
use Rattle.cm_io.specs.declared.sink.Took.{Took}
use Rattle.cm_io.specs.declared.sink.Took.TheVariants as took
use Rattle.cm_io.specs.declared.output.Put.{Put}
use Rattle.cm_io.specs.declared.output.Put.TheVariants as put
use Rattle.cm_io.specs.Outside.{AsSource, AsSink}

-- what an object that is no source tells as one: nothing
abbrev pub no_source : AsSource
no_source = record { left = None; given = None; faults = 0 }

-- what an object that is no sink tells as one: nothing
abbrev pub no_sink : AsSink
no_sink = record { written = None; faults = 0 }

-- whether a read failed
abbrev pub is_failed_read : Got → Bool
is_failed_read got.Failed = true
is_failed_read got.End = false
is_failed_read (got.Bytes n) = false

-- whether a write failed
abbrev pub is_failed_write : Took → Bool
is_failed_write took.Failed = true
is_failed_write (took.Bytes n) = false

-- all of the bytes were written, or as many as the fault tells, which aren't all
abbrev pub PutsAll : Option (List ℕ) → Option (List ℕ) → List ℕ → Put → Type 0
PutsAll old new bytes put.Done = Appends old new bytes
PutsAll old new bytes (put.WriteFault n) = (n < length bytes) × Appends old new (take n bytes)

-- a fault is counted, and nothing else
abbrev pub PutCause : ℕ → ℕ → Put → Type 0
PutCause before now put.Done = now ≡ before
PutCause before now (put.WriteFault n) = (before ≤ now) × (now ≡ one_more before)

-- some first bytes of the known ones are gone
abbrev pub LosesPrefix : Option (List ℕ) → Option (List ℕ) → Type 0
LosesPrefix old new = (bytes : List ℕ) × Consumes old new bytes
