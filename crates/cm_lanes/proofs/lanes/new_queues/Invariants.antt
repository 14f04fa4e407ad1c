use Rattle.std.proofs.Common.{◌≡◌, ◌≤◌, [], All, length, vec_capacity}
use Rattle.cm_lanes.proofs.lanes.new_queues.Given as goal

abbrev pub invariant-loop : goal.invariant-loop
invariant-loop l = record {
  count : length l.queues.items ≡ l.counter;
  none : All (λ q. q.items ≡ []) l.queues.items;
  room : 16 ≤ vec_capacity l.queues;
}
