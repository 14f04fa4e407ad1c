use Rattle.std.proofs.Common.{Some, None, get_or}
use Rattle.std.proofs.lemmas.List.{get_or_default}
use Rattle.cm_manager.proofs.lemmas.callers.CallerRuns.{known_run}
use Rattle.cm_manager.proofs.lemmas.callers.CallerStops.{clear_cut, clear_done, cleared_on}
use Rattle.cm_manager.proofs.lemmas.checks.DoctorLines.{here_next, none_left}
use Rattle.cm_manager.proofs.lemmas.shutdowns.Sweepings.{all_marked, item_marked}
use Rattle.cm_manager.proofs.caller.Caller.clear.Goals as goal

pub loop-row-init : goal.loop-row-init
loop-row-init g c = record { onward = record { rest = λ t end it. it }; known = c.requires.known; marked = c.requires.marked }

pub remove_row-requires : goal.remove_row-requires
remove_row-requires g c =
    let items = c.as_slice-row-items.result.now in
    let row = get_or items c.loop-row.row-index 0 in (
      c.type_bounds.sync-R,
      item_marked _ c.args.rows items c.loop-row.row-index row c.loop-row.invariant.marked
          c.as_slice-row-items.ensures c.loop-row-test.true (get_or_default items c.loop-row.row-index 0 row c.loop-row-test.true),
    )

pub loop-row-preserved : goal.loop-row-preserved
loop-row-preserved g c =
    let items = c.as_slice-row-items.result.now in
    let row = get_or items c.loop-row.row-index 0 in
    record {
      onward =
          cleared_on row c.remove_row.result _ _ _ _ _ _ c.loop-row.invariant.onward
          (here_next items c.args.rows c.loop-row.row-index row c.as_slice-row-items.ensures c.loop-row-test.true (get_or_default items c.loop-row.row-index 0 row c.loop-row-test.true))
          c.in_default.is c.remove_row.ensures;
      known = known_run _ _ _ c.remove_row.ensures;
      marked = all_marked c.marks_stay.ensures.stays c.args.rows _ _ c.remove_row.ensures.helps.same c.loop-row.invariant.marked;
    }

pub returns-in-Some : goal.returns-in-Some
returns-in-Some g c =
    let items = c.as_slice-row-items.result.now in
    let row = get_or items c.loop-row.row-index 0 in
    c.loop-row.invariant.onward.rest _ (Some c.in-Some.refusal)
    (clear_cut row c.remove_row.result c.in-Some.refusal _ _ _ _
    (here_next items c.args.rows c.loop-row.row-index row c.as_slice-row-items.ensures c.loop-row-test.true (get_or_default items c.loop-row.row-index 0 row c.loop-row-test.true))
    c.in-Some.is c.remove_row.ensures)

pub returns : goal.returns
returns g c =
    c.loop-row.invariant.onward.rest _ None
    (clear_done _ _ (none_left c.as_slice-row-items.result.now c.args.rows c.loop-row.row-index c.as_slice-row-items.ensures c.loop-row-test.false) c.loop-row.invariant.known)
