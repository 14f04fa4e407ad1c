use Rattle.std.proofs.Common.{[], drop}
use Rattle.cm_manager.specs.Asking.{frame_of}
use Rattle.cm_manager.specs.Contract.{IsSamePass}
use Rattle.cm_manager.specs.Doctor.{GathersEach, OfRow}
use Rattle.cm_manager.specs.DoctorInside.{Gathering}
use Rattle.cm_manager.proofs.lemmas.callers.CallerRuns.{CallerLoop}
use Rattle.cm_manager.proofs.caller.Caller.check_rows.Given as goal

-- whatever the rows that are left come to is what all of them come to
abbrev pub invariant-loop-row : goal.invariant-loop-row
invariant-loop-row g l = record {
  onward :
      CallerLoop (λ end f c a b. Gathering (GathersEach (OfRow f c) (drop l.row-index l.fn.rows)) l.all a b end) (λ end f c a b. Gathering (GathersEach (OfRow f c) l.fn.rows) [] a b end) l.fn.self l.self;
  known : IsSamePass (frame_of l.self.pass) l.self.pass l.self.pass;
}
