-- How a fault inside a field that lists items is told.
use Rattle.std.proofs.Common.{ℕ, List, Err, ap, ◌∙◌}
use Rattle.cm_read.specs.declared.fault.ReadFault.{ReadFault}
use Rattle.cm_read.specs.declared.fault.ReadFault.TheVariants.{Bad, Memory}
use Rattle.cm_read.specs.Reading.{ReadResult}
use Rattle.cm_read.specs.ReadingInside.{FailsReading, IsReadFault}
use Rattle.cm_read.specs.Environments.{in_field, inside}

-- what is told with another field is the fault of reading inside it, unless memory ran out
pub told : {A : Type 0} (field : List ℕ) (read : ReadResult A) (found said : ReadFault) → FailsReading found read
    → IsReadFault said (in_field field found) → FailsReading said (inside field read)
told field read found Memory f t = tt
told field read Memory (Bad number section index key) f t = absurd cc
told field read (Bad n s i k) (Bad number section index key) f t = ap (inside field) f ∙ ap Err t
