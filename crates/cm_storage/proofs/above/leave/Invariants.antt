use Rattle.std.proofs.Common.{length}
use Rattle.cm_storage.specs.ParentAtHand.{AreStanding}
use Rattle.cm_storage.proofs.above.leave.Given as goal

abbrev pub invariant-up : goal.invariant-up
invariant-up g l = AreStanding (g.V.View.rows l.view) (g.V.View.builtins l.view) l.above.items

abbrev pub decreases-up : goal.decreases-up
decreases-up g l = length l.above.items
