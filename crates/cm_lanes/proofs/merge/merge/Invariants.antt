use Rattle.std.proofs.Common.{◌≡◌, length}
use Rattle.cm_lanes.specs.Merge.{QueuesHaveAll}
use Rattle.cm_lanes.proofs.lemmas.merged.Queues.{MovesAll}
use Rattle.cm_lanes.proofs.merge.merge.Given as goal

abbrev pub invariant-loop-phase : goal.invariant-loop-phase
invariant-loop-phase l = record {
  count : length l.queues.items ≡ 16;
  moves : (is : QueuesHaveAll l.phases l.fn.queues.items) → MovesAll l.phase-index is.answered l.queues.items l.all;
}
