use Rattle.std.proofs.Common.{◌≡◌, ◌+◌, length}
use Rattle.program_player.proofs.meeting.meeting_gates.Given as goal

abbrev pub invariant-loop-pair : goal.invariant-loop-pair
invariant-loop-pair l = length l.gates.items ≡ l.pair + l.pair
