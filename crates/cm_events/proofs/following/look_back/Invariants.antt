use Rattle.std.proofs.Common.{◌≤◌}
use Rattle.cm_events.proofs.lemmas.Seeking.{StandAll}
use Rattle.cm_events.proofs.following.look_back.Given as goal

abbrev pub invariant-loop-back : goal.invariant-loop-back
invariant-loop-back l = record {
  early : l.back ≤ l.start;
  stand : StandAll l.entries l.start l.back l.left l.works l.fn.wanted;
}

abbrev pub decreases-loop-back : goal.decreases-loop-back
decreases-loop-back l = l.back
