use Rattle.std.proofs.Common.{Ok}
use Rattle.std.proofs.lemmas.Result.{err_from_is_err_and}
use Rattle.cm_manager.specs.Doctor.{OfPath}
use Rattle.cm_manager.proofs.lemmas.callers.CallerRuns.{known_run}
use Rattle.cm_manager.proofs.lemmas.callers.CallerAnswers.{gather_cut, gather_done, gathered_on}
use Rattle.cm_manager.proofs.lemmas.checks.DoctorLines.{here_next, none_left}
use Rattle.cm_manager.proofs.caller.Caller.check_paths.Goals as goal

pub loop-path-init : goal.loop-path-init
loop-path-init g c = record { onward = record { rest = λ t end it. it }; known = c.requires.known }

pub loop-path-preserved : goal.loop-path-preserved
loop-path-preserved g c = record {
  onward =
      gathered_on (λ f n. OfPath f n c.args.row.now) c.path-item.result c.args.row.now.paths _ _ c.args.lines c.loop-path.all _ _ _ _ c.loop-path.invariant.onward
      (here_next c.as_slice-path-items.result.now c.args.row.now.paths c.loop-path.path-index c.path-item.result c.as_slice-path-items.ensures c.loop-path-test.true c.path-item.is)
      c.in_ok-all.ensures;
  known = known_run _ _ _ c.in_ok-all.ensures;
}

pub returns-in_err-all : goal.returns-in_err-all
returns-in_err-all g c =
    let p = err_from_is_err_and c.from_residual.result c.from_residual.ensures.1 in
    rw (p.1, p.2)
    (c.loop-path.invariant.onward.rest _ _
    (gather_cut (λ f n. OfPath f n c.args.row.now) c.path-item.result _ _ c.loop-path.all _ _ _
    (here_next c.as_slice-path-items.result.now c.args.row.now.paths c.loop-path.path-index c.path-item.result c.as_slice-path-items.ensures c.loop-path-test.true c.path-item.is)
    c.in_err-all.ensures))

pub returns : goal.returns
returns g c =
    c.loop-path.invariant.onward.rest _ (Ok c.loop-path.all)
    (gather_done (λ f n. OfPath f n c.args.row.now) _ c.loop-path.all _
    (none_left c.as_slice-path-items.result.now c.args.row.now.paths c.loop-path.path-index c.as_slice-path-items.ensures c.loop-path-test.false) c.loop-path.invariant.known)
