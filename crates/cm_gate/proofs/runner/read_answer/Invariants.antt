use Rattle.std.proofs.Common.{◌-◌, length}
use Rattle.cm_gate.specs.Asks.{Gives}
use Rattle.cm_gate.proofs.runner.read_answer.Given as goal

abbrev pub invariant-loop-piece : goal.invariant-loop-piece
invariant-loop-piece g l = Gives g.C.Connection.gave l.fn.from l.answer.items l.from

abbrev pub decreases-loop-piece : goal.decreases-loop-piece
decreases-loop-piece g l = 32 - length l.answer.items
