-- Inside.
-- Several values that are read, or the first fault among them.
use Rattle.std.specs.Prelude.{Ok, Err}
use Rattle.cm_read.specs.Reading.{ReadResult}
use Rattle.cm_read.specs.ReadingInside.{GivesReading}

-- both values that were read, or the first fault of the two
abbrev pub both : {A B : Type 0} → ReadResult A → ReadResult B → ReadResult (A × B)
both (Ok x) (Ok y) = Ok (x, y)
both (Ok x) (Err fault) = Err fault
both (Err fault) second = Err fault

-- what a function made of two readings is right wherever the two are: both values, or the first fault
abbrev pub GivesBoth : {A B : Type 0} → ReadResult A → ReadResult B → ReadResult (A × B) → Type 0
GivesBoth {A} {B} first second result =
    (a : ReadResult A) (b : ReadResult B) → GivesReading first a → GivesReading second b
    → GivesReading result (both a b)
