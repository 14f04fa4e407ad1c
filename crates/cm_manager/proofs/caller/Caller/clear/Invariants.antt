use Rattle.std.proofs.Common.{ℕ, true, drop}
use Rattle.std.specs.Prelude.{Contains}
use Rattle.cm_laws.specs.Shutdowns.{IsMarked}
use Rattle.cm_manager.specs.Turns.{world_after}
use Rattle.cm_manager.specs.Asking.{frame_of}
use Rattle.cm_manager.specs.Contract.{IsSamePass}
use Rattle.cm_manager.specs.Sweeps.{Clears}
use Rattle.cm_manager.proofs.lemmas.callers.CallerRuns.{CallerLoop}
use Rattle.cm_manager.proofs.caller.Caller.clear.Given as goal

-- whatever the rows that are left come to is what all of them come to, and all of them are marked
abbrev pub invariant-loop-row : goal.invariant-loop-row
invariant-loop-row g l = record {
  onward : CallerLoop (λ end f c a b. Clears f c (drop l.row-index l.fn.rows) a b end) (λ end f c a b. Clears f c l.fn.rows a b end) l.fn.self l.self;
  known : IsSamePass (frame_of l.self.pass) l.self.pass l.self.pass;
  marked : (i : ℕ) → Contains l.fn.rows i → IsMarked true (world_after (frame_of l.self.pass) l.self.pass.seen) i;
}
