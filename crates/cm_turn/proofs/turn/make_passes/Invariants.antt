use Rattle.std.proofs.Common.{◌≡◌, ◌≤◌, [], vec_len, vec_capacity}
use Rattle.cm_turn.specs.Views.{idle_maker}
use Rattle.cm_turn.specs.Passes.{new_passes}
use Rattle.cm_turn.proofs.turn.make_passes.Given as goal

abbrev pub invariant-loop-number : goal.invariant-loop-number
invariant-loop-number g l = (l.seat.table_id ≡ l.table.table_id) × (l.seat.me ≡ (idle_maker (g.S.Storied.frame l.table.key.0) l.number l.passes, [])) × (l.list.items ≡ new_passes l.table.table_id (g.S.Storied.frame l.table.key.0) l.number) × (vec_len l.list ≡ l.number) × (l.passes ≤ vec_capacity l.list)
