use Rattle.std.proofs.Common.{◌≡◌, ◌≤◌, ◌-◌, length}
use Rattle.cm_events.specs.Stream.{stream}
use Rattle.cm_events.proofs.lemmas.Finding.{HasWanted}
use Rattle.cm_events.proofs.following.follow.Given as goal

-- what the entries so far tell, and the works that those behind want
abbrev pub invariant-loop-index : goal.invariant-loop-index
invariant-loop-index l = record {
  late : l.from ≤ l.index;
  within : l.index ≤ length l.entries;
  told_so_far : l.made ≡ stream l.entries l.from l.index l.scope;
  known : HasWanted l.entries l.index l.works;
}

abbrev pub decreases-loop-index : goal.decreases-loop-index
decreases-loop-index l = length l.entries - l.index
