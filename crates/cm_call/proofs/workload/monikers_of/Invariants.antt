use Rattle.std.proofs.Common.{◌≡◌, map}
use Rattle.std.specs.List.{range_with_len}
use Rattle.cm_call.specs.Generated.{moniker_of}
use Rattle.cm_call.proofs.workload.monikers_of.Given as goal

abbrev pub invariant-loop-instance : goal.invariant-loop-instance
invariant-loop-instance l = l.monikers ≡ map moniker_of (range_with_len 0 l.instance)
