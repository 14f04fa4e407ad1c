use Rattle.std.proofs.Common.{drop}
use Rattle.cm_manager.specs.Asking.{frame_of}
use Rattle.cm_manager.specs.Contract.{IsSamePass}
use Rattle.cm_manager.specs.Doctor.{GathersEach, OfPath}
use Rattle.cm_manager.specs.DoctorInside.{Gathering}
use Rattle.cm_manager.proofs.lemmas.callers.CallerRuns.{CallerLoop}
use Rattle.cm_manager.proofs.caller.Caller.check_paths.Given as goal

-- whatever the paths that are left come to is what all of them come to
abbrev pub invariant-loop-path : goal.invariant-loop-path
invariant-loop-path g l = record {
  onward :
      CallerLoop (λ end f c a b. Gathering (GathersEach (OfPath f c l.row) (drop l.path-index l.row.paths)) l.all a b end) (λ end f c a b. Gathering (GathersEach (OfPath f c l.row) l.row.paths) l.fn.lines a b end) l.fn.self l.self;
  known : IsSamePass (frame_of l.self.pass) l.self.pass l.self.pass;
}
