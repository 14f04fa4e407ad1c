-- Promised.
-- What gates tell of their calls: the log, and the count of faults.
use Rattle.std.specs.Prelude.{◌≡◌, ℕ, ◌+◌, ◌-◌, ◌^◌, ◌≤◌, min, List, ◌++◌, Option, Some, None}
use Rattle.cm_gate.specs.declared.asked.GateCall.{GateCall}

-- the log grew by these calls with their answers, as far as it is told; it isn't told again once it
-- wasn't
abbrev pub Grew : Option (List GateCall) → Option (List GateCall) → List GateCall → Type 0
Grew old None questions = Unit {0}
Grew None (Some new) questions = ⊥
Grew (Some old) (Some new) questions = new ≡ old ++ questions

-- a count of faults rose at least so many times; it stops at 2^64 - 1
abbrev pub RoseBy : ℕ → ℕ → ℕ → Type 0
RoseBy times before now = min (before + times) (2 ^ 64 - 1) ≤ now
