use Rattle.std.proofs.Common.{◌≡◌, ◌+◌, ◌*◌, filter, nat_lt}
use Rattle.std.specs.List.{range_with_len}
use Rattle.cm_call.proofs.generator.kids_of.Given as goal

abbrev pub invariant-loop-place : goal.invariant-loop-place
invariant-loop-place l = l.kids ≡ filter (λ c. nat_lt c l.size) (range_with_len (l.instance * 4 + 1) l.place)
