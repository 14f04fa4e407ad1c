use Rattle.std.proofs.Common.{◌≡◌, length}
use Rattle.cm_lanes.specs.Merge.{QueuesStartWith}
use Rattle.cm_lanes.proofs.lemmas.merged.Queues.{Moves}
use Rattle.cm_lanes.proofs.merge.merge_lines.Given as goal

abbrev pub invariant-loop-line : goal.invariant-loop-line
invariant-loop-line l = record {
  count : length l.queues.items ≡ 16;
  moves : (is : QueuesStartWith l.lines l.fn.queues.items) → Moves l.line-index is.answered is.behind l.queues.items l.fn.all l.all;
}
