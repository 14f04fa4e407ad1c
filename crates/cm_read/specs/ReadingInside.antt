-- Inside.
-- What functions that read promise: memory may run out at any time, all else is fixed.
use Rattle.std.specs.Prelude.{◌≡◌, Ok, Err}
use Rattle.cm_read.specs.declared.fault.ReadFault.{ReadFault}
use Rattle.cm_read.specs.declared.fault.ReadFault.TheVariants.{Bad, Memory}
use Rattle.cm_read.specs.Reading.{ReadResult}

-- a function's fault is the wanted one, unless memory ran out
abbrev pub IsReadFault : ReadFault → ReadFault → Type 0
IsReadFault Memory wanted = Unit {0}
IsReadFault (Bad number section index field) wanted = wanted ≡ Bad number section index field

-- reading fails with this fault, unless memory ran out
abbrev pub FailsReading : {Y : Type 0} → ReadFault → ReadResult Y → Type 0
FailsReading Memory read = Unit {0}
FailsReading (Bad number section index field) read = read ≡ Err (Bad number section index field)

-- what a function returned, in the way that contracts see it, is what reading gives, unless memory ran
-- out
abbrev pub GivesBy : {X Y : Type 0} → (X → Y) → ReadResult X → ReadResult Y → Type 0
GivesBy view (Ok x) read = read ≡ Ok (view x)
GivesBy view (Err e) read = FailsReading e read

-- what a function returned is what reading gives, unless memory ran out
abbrev pub GivesReading : {X : Type 0} → ReadResult X → ReadResult X → Type 0
GivesReading result read = GivesBy (λ x. x) result read
