use Rattle.std.proofs.Common.{◌≡◌}
use Rattle.cm_turn.proofs.steps.is_served_soon.Given as goal

abbrev pub invariant-loop : goal.invariant-loop
invariant-loop g l = (l.seat.table_id ≡ l.fn.seat.table_id) × (l.seat.me ≡ l.fn.seat.me)
