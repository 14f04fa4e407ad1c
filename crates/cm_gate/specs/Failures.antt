-- Inside.
-- Which answers of gates say that the gate failed. A gate asks a resolver or a runner of the outside.
use Rattle.std.specs.Prelude.{Bool, true, false}
use Rattle.cm_gate.specs.declared.asked.GateCall.{GateCall}
use Rattle.cm_gate.specs.declared.asked.GateCall.TheVariants as asked
use Rattle.cm_gate.specs.declared.asked.Fetched.{Fetched}
use Rattle.cm_gate.specs.declared.asked.Fetched.TheVariants as fetched
use Rattle.cm_gate.specs.declared.asked.Launched.{Launched}
use Rattle.cm_gate.specs.declared.asked.Launched.TheVariants as launched
use Rattle.cm_gate.specs.declared.asked.Halted.{Halted}
use Rattle.cm_gate.specs.declared.asked.Halted.TheVariants as halted

-- whether a fetch of a manifest failed
abbrev pub is_failed_fetch : Fetched → Bool
is_failed_fetch fetched.Failed = true
is_failed_fetch (fetched.Found bytes) = false
is_failed_fetch fetched.Absent = false
is_failed_fetch fetched.Memory = false

-- whether the launch of a program failed
abbrev pub is_failed_launch : Launched → Bool
is_failed_launch launched.Failed = true
is_failed_launch launched.Running = false
is_failed_launch launched.Declined = false

-- whether the halt of a program failed
abbrev pub is_failed_halt : Halted → Bool
is_failed_halt halted.Failed = true
is_failed_halt halted.Stopped = false

-- whether the gate that was asked failed
abbrev pub is_failure : GateCall → Bool
is_failure (asked.Fetch what answer) = is_failed_fetch answer
is_failure (asked.Launch job answer) = is_failed_launch answer
is_failure (asked.Halt job answer) = is_failed_halt answer
