use Rattle.std.proofs.Common.{List, [], Ok, subst, ◌∙◌}
use Rattle.std.proofs.lemmas.Result.{err_from_is_err_and}
use Rattle.cm_world.specs.declared.answer.Checked.{Checked}
use Rattle.cm_manager.specs.Caller.{CallerRuns}
use Rattle.cm_manager.specs.Doctor.{GathersEach, OfRow}
use Rattle.cm_manager.specs.DoctorInside.{Gathering}
use Rattle.cm_manager.proofs.lemmas.callers.CallerRuns.{known_run}
use Rattle.cm_manager.proofs.lemmas.callers.CallerAnswers.{gather_cut, gather_done, gathered_on}
use Rattle.cm_manager.proofs.lemmas.checks.DoctorLines.{here_next, none_left}
use Rattle.cm_manager.proofs.caller.Caller.check_rows.Goals as goal

pub loop-row-init : goal.loop-row-init
loop-row-init g c = record {
  onward = record {
    rest =
        λ t end it.
        subst (λ (l : List Checked). CallerRuns (λ f n a b. Gathering (GathersEach (OfRow f n) c.args.rows) l a b end) c.args.self.now t)
        c.new-all.ensures it;
  };
  known = c.requires.known;
}

pub check_row-requires : goal.check_row-requires
check_row-requires g c = (c.type_bounds.sync-R, c.loop-row.invariant.known)

pub loop-row-preserved : goal.loop-row-preserved
loop-row-preserved g c = record {
  onward =
      gathered_on OfRow c.row-item.result c.args.rows _ _ [] c.loop-row.all _ _ _ _ c.loop-row.invariant.onward
      (here_next c.as_slice-row-items.result.now c.args.rows c.loop-row.row-index c.row-item.result (c.as_slice-row-items.ensures ∙ c.get.ensures) c.loop-row-test.true c.row-item.is)
      c.in_ok-all.ensures;
  known = known_run _ _ _ c.in_ok-all.ensures;
}

pub returns-in_err-all : goal.returns-in_err-all
returns-in_err-all g c =
    let p = err_from_is_err_and c.from_residual.result c.from_residual.ensures.1 in
    rw (p.1, p.2)
    (c.loop-row.invariant.onward.rest _ _
    (gather_cut OfRow c.row-item.result _ _ c.loop-row.all _ _ _
    (here_next c.as_slice-row-items.result.now c.args.rows c.loop-row.row-index c.row-item.result (c.as_slice-row-items.ensures ∙ c.get.ensures) c.loop-row-test.true c.row-item.is)
    c.in_err-all.ensures))

pub returns : goal.returns
returns g c =
    c.loop-row.invariant.onward.rest _ (Ok c.loop-row.all)
    (gather_done OfRow _ c.loop-row.all _
    (none_left c.as_slice-row-items.result.now c.args.rows c.loop-row.row-index (c.as_slice-row-items.ensures ∙ c.get.ensures) c.loop-row-test.false) c.loop-row.invariant.known)
