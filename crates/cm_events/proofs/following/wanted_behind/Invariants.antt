use Rattle.std.proofs.Common.{◌≡◌, ◌≤◌, ℕ, nat_eq, drop, length}
use Rattle.std.specs.HashSet.{contains}
use Rattle.cm_events.specs.Wanted.{is_wanted}
use Rattle.cm_events.proofs.following.wanted_behind.Given as goal

abbrev pub invariant-loop-back : goal.invariant-loop-back
invariant-loop-back l = record {
  late : l.start ≤ l.back;
  within : l.back ≤ length l.entries;
  wanted_so_far : (a : ℕ) → contains nat_eq l.wanted a ≡ is_wanted (drop l.back l.entries) a;
}

abbrev pub decreases-loop-back : goal.decreases-loop-back
decreases-loop-back l = l.back
