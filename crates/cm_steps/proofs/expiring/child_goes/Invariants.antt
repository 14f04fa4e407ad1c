use Rattle.std.proofs.Common.{◌≡◌}
use Rattle.cm_world.specs.Rows.{has_parent}
use Rattle.cm_steps.proofs.lemmas.expiries.Dooming.{doomed_up_to}
use Rattle.cm_walk.proofs.lemmas.descents.Behind.{left}
use Rattle.cm_steps.proofs.expiring.child_goes.Given as goal

-- no child up to the last one seen would be doomed
abbrev pub invariant-next : goal.invariant-next
invariant-next g l = doomed_up_to l.inc l.after (g.V.View.rows l.view) ≡ g.V.View.rows l.view

abbrev pub decreases-next : goal.decreases-next
decreases-next g l = left (has_parent l.inc) l.after (g.V.View.rows l.view)
