-- Inside.
-- When a report ends for lack of memory.
use Rattle.std.specs.Prelude.{Bool, true, false}
use Rattle.std.specs.Prelude.{Err}
use Rattle.cm_storage.specs.declared.fault.StorageFault.TheVariants as fault
use Rattle.cm_storage.specs.Places.{Placed}

-- whether no place is told since memory ran out
abbrev pub is_memory : Placed → Bool
is_memory (Err fault.Memory) = true
is_memory _ = false
