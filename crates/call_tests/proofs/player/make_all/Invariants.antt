use Rattle.std.proofs.Common.{◌≡◌}
use Rattle.call_tests.proofs.player.make_all.Given as goal

abbrev pub invariant-loop-line : goal.invariant-loop-line
invariant-loop-line g l = l.pass.lock ≡ l.manager.turn.lock
