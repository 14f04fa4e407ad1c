use Rattle.std.proofs.Common.{◌≡◌}
use Rattle.cm_world.specs.Rows.{has_parent}
use Rattle.cm_steps.proofs.lemmas.expiries.Dooming.{doomed_up_to}
use Rattle.cm_walk.proofs.lemmas.descents.Behind.{left}
use Rattle.cm_steps.proofs.expiring.doom_children.Given as goal

-- the children up to the last one seen are doomed
abbrev pub invariant-next : goal.invariant-next
invariant-next l = l.table ≡ record l.fn.table { rows = doomed_up_to l.inc l.after l.fn.table.rows }

abbrev pub decreases-next : goal.decreases-next
decreases-next l = left (has_parent l.inc) l.after l.fn.table.rows
