use Rattle.cm_laws.specs.Shutdowns.{IsLeaving}
use Rattle.cm_manager.specs.Turns.{world_after}
use Rattle.cm_manager.specs.Asking.{frame_of}
use Rattle.cm_manager.specs.Sweeps.{Stops}
use Rattle.cm_manager.proofs.lemmas.callers.CallerRuns.{CallerLoop}
use Rattle.cm_manager.proofs.caller.Caller.stop_all.Given as goal

-- whatever the picks that are left come to is what all of them come to
abbrev pub invariant-loop : goal.invariant-loop
invariant-loop g l = record {
  onward : CallerLoop (λ end f c a b. Stops f c l.target a b end) (λ end f c a b. Stops f c l.target a b end) l.fn.self l.self;
  leaving : IsLeaving (world_after (frame_of l.self.pass) l.self.pass.seen) l.target;
}
