use Rattle.std.proofs.Common.{◌≡◌, map, take}
use Rattle.cm_call.specs.Generated.{ask_of}
use Rattle.cm_call.proofs.workload.asks_of.Given as goal

abbrev pub invariant-loop-instance : goal.invariant-loop-instance
invariant-loop-instance l = l.commands ≡ map ask_of (take l.instance-index l.draws)
