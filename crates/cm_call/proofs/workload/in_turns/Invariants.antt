use Rattle.std.proofs.Common.{◌≡◌, ◌+◌, ◌++◌, length}
use Rattle.cm_call.specs.Generated.{in_turns}
use Rattle.cm_call.proofs.workload.in_turns.Given as goal

-- what is still to come makes the whole
abbrev pub invariant-loop-command : goal.invariant-loop-command
invariant-loop-command l =
    (l.number + length l.command-iterator.rest.items ≡ length l.fn.commands)
    × (l.lines ++ in_turns l.number l.command-iterator.rest.items ≡ in_turns 0 l.fn.commands)
