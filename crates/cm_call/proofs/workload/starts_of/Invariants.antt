use Rattle.std.proofs.Common.{◌≡◌, map, take}
use Rattle.cm_call.specs.Generated.{start_at}
use Rattle.cm_call.proofs.workload.starts_of.Given as goal

abbrev pub invariant-loop-moniker : goal.invariant-loop-moniker
invariant-loop-moniker l = l.commands ≡ map start_at (take l.moniker-index l.monikers)
