use Rattle.std.proofs.Common.{◌≡◌, length, map, [], All}
use Rattle.std.specs.Prelude.{IsSome}
use Rattle.cm_turn.specs.Views.{gatherer}
use Rattle.cm_turn.specs.Passes.{known_as}
use Rattle.cm_turn.proofs.turn.gather_passes.Given as goal

abbrev pub invariant-loop-pass : goal.invariant-loop-pass
invariant-loop-pass g l = (l.seat.table_id ≡ l.table.table_id) × (l.seat.me ≡ (gatherer (length l.yielded) (map known_as l.yielded), [])) × All (λ p. IsSome p.frame) l.yielded
