use Rattle.std.proofs.Common.{◌≡◌, ◌<◌, ◌-◌, ◌^◌, ◌++◌}
use Rattle.cm_call.specs.Generated.{drawn}
use Rattle.cm_call.proofs.workload.draws_of.Given as goal

-- what is still to be drawn makes the whole
abbrev pub invariant-loop-place : goal.invariant-loop-place
invariant-loop-place l = (l.last < 2 ^ 31) × (l.draws ++ drawn l.size l.last (l.size - l.place) ≡ drawn l.size l.seed l.size)
