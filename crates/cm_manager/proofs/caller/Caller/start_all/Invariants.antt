use Rattle.cm_manager.specs.Asking.{frame_of}
use Rattle.cm_manager.specs.Contract.{IsSamePass}
use Rattle.cm_manager.specs.Runs.{StartsEager}
use Rattle.cm_manager.proofs.lemmas.callers.CallerRuns.{CallerLoop}
use Rattle.cm_manager.proofs.caller.Caller.start_all.Given as goal

-- whatever the rows that are left come to is what all of them come to
abbrev pub invariant-loop : goal.invariant-loop
invariant-loop g l = record {
  onward : CallerLoop (λ end f c a b. StartsEager f c l.left.items a b end) (λ end f c a b. StartsEager f c l.fn.rows.items a b end) l.fn.self l.self;
  known : IsSamePass (frame_of l.self.pass) l.self.pass l.self.pass;
}
