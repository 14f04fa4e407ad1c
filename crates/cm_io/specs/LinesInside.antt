-- Inside.
-- What the line reader does in a call.
use Rattle.std.specs.Prelude.{◌≡◌, ◌≢◌, ◌⊎◌, ℕ, ◌<◌, ◌≤◌, Bool, true, false, List, [], ◌∷◌}
use Rattle.std.specs.Prelude.{◌++◌, length, All, Option, Some, None}
use Rattle.std.specs.Io.KnownBytes.{Appends, Consumes, IsAtEnd, Keeps}
use Rattle.cm_io.specs.Outside.{AsSource}
use Rattle.cm_io.specs.declared.lines.Next.{Next}
use Rattle.cm_io.specs.declared.lines.Next.TheVariants as next
use Rattle.cm_io.specs.declared.source.Got.{Got}
use Rattle.cm_io.specs.declared.source.Got.TheVariants as got
use Rattle.cm_io.specs.Lines.{lines}

-- no line ends in these bytes
abbrev pub IsUnbroken : List ℕ → Type 0
IsUnbroken bytes = All (λ byte. byte ≢ 10) bytes

-- a line reader: the bytes that its source gave and that it still holds, and whether the source has
-- come to its end, after which it isn't read any more
pub record Reader : Type 0 where
  pub held : List ℕ
  pub over : Bool

-- `line` is the first line of the bytes `taken`, and the reader holds the rest of them
abbrev pub IsFirstLine : List ℕ → Reader → List ℕ → Type 0
IsFirstLine taken reader line =
    IsUnbroken line ×
    ((taken ≡ line ++ 10 ∷ reader.held) ⊎
    ((taken ≡ line) × (0 < length line) × (reader.held ≡ []) × (reader.over ≡ true)))

-- what a call of the reader tells is right for the bytes `taken`: those that it held before and those
-- that the source gave
abbrev pub TellsLine : List ℕ → Reader → Next → Type 0
TellsLine taken reader (next.Line line) = (length line ≤ 65536) × IsFirstLine taken reader line
TellsLine taken reader next.TooLong = (line : List ℕ) × (65536 < length line) × IsFirstLine taken reader line
TellsLine taken reader next.End = (taken ≡ []) × (reader.held ≡ []) × (reader.over ≡ true)
TellsLine taken reader next.ReadFault = IsUnbroken taken × (reader.held ≡ [])
TellsLine taken reader next.Memory = Unit {0}

-- a reader that came to the end leaves its source alone, and one that comes there finds the source at its end
pub record EndsOnce (old new : Reader) (source₀ source₁ : AsSource) (given : List ℕ) : Type 0 where
  pub still : old.over ≡ true → (given ≡ []) × (new.over ≡ true) × (source₁ ≡ source₀)
  pub comes : old.over ≡ false → new.over ≡ true → IsAtEnd source₁.left

-- what a call takes of the lines of all bytes that were still to come, as far as those are known
abbrev pub TakesLine : Option (List ℕ) → Option (List ℕ) → Next → Type 0
TakesLine None new answer = Unit {0}
TakesLine (Some old) None answer = ⊥
TakesLine (Some old) (Some new) (next.Line line) = (lines old ≡ line ∷ lines new) × (length line ≤ 65536)
TakesLine (Some old) (Some new) next.TooLong =
    (line : List ℕ) × (lines old ≡ line ∷ lines new) × (65536 < length line)
TakesLine (Some old) (Some new) next.End = (old ≡ []) × (new ≡ [])
TakesLine (Some old) (Some new) next.ReadFault = Unit {0}
TakesLine (Some old) (Some new) next.Memory = Unit {0}

-- the line grew by this part; once it is too long nothing more is kept
abbrev pub LineGrows : List ℕ → List ℕ → List ℕ → Type 0
LineGrows old new part = (length old ≤ 65536 → new ≡ old ++ part) × (65536 < length old → new ≡ old)

-- the line grew by what was held up to the next line feed (true), or by all that was held (false)
abbrev pub TakesPart : List ℕ → List ℕ → List ℕ → List ℕ → Bool → Type 0
TakesPart held kept old new true =
    (part : List ℕ) × IsUnbroken part × (held ≡ part ++ 10 ∷ kept) × LineGrows old new part
TakesPart held kept old new false = IsUnbroken held × (kept ≡ []) × LineGrows old new held

-- what a read into an empty reader takes of the source's bytes; the reader holds them then
abbrev pub Fills : Option (List ℕ) → Option (List ℕ) → List ℕ → Got → Type 0
Fills old new held (got.Bytes n) = Consumes old new held
Fills old new held got.End = (held ≡ []) × Keeps old new × IsAtEnd new
Fills old new held got.Failed = (held ≡ []) × Keeps old new

-- what such a read adds to the bytes that the source gave
abbrev pub GaveBytes : Option (List ℕ) → Option (List ℕ) → List ℕ → Got → Type 0
GaveBytes old new held (got.Bytes n) = Appends old new held
GaveBytes old new held got.End = Keeps old new
GaveBytes old new held got.Failed = Keeps old new
