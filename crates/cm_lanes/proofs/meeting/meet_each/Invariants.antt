use Rattle.std.proofs.Common.{◌≡◌, length}
use Rattle.cm_lanes.specs.Meeting.{MeetsEach}
use Rattle.cm_lanes.proofs.meeting.meet_each.Given as goal

abbrev pub invariant-loop-other : goal.invariant-loop-other
invariant-loop-other g l = record {
  meets : MeetsEach l.other-index l.fn.first l.first l.fn.others l.others;
  long : length l.others ≡ length l.fn.others;
}
