use Rattle.std.proofs.Common.{refl, ◌∙◌, get_or}
use Rattle.cm_steps.proofs.lemmas.expiries.Gathered.{told_more, told_all}
use Rattle.cm_steps.proofs.replies.telling.told_below.Goals as goal

pub loop-inc-preserved : goal.loop-inc-preserved
loop-inc-preserved g c =
    let incs = c.as_slice-inc-items.result.now in
    told_more c.args.table.now.rows c.args.table.now.next_inc c.args.top c.loop-inc.inc-index (get_or incs c.loop-inc.inc-index 0) (g.T.Reportable.told_of c.args.table.now.rows) incs c.in_ok-found.found c.loop-inc.told c.push_found.new.list
    c.rows_below.ensures.orderly c.loop-inc-test.true refl (c.as_slice-inc-items.ensures.value ∙ c.in_ok-below.ensures.found) c.in_ok-found.ensures c.loop-inc.invariant c.in_ok-push_found.ensures

pub returns : goal.returns
returns g c =
    told_all c.args.table.now.rows c.args.top c.loop-inc.inc-index (g.T.Reportable.told_of c.args.table.now.rows) c.as_slice-inc-items.result.now c.loop-inc.told c.loop-inc-test.false (c.as_slice-inc-items.ensures.value ∙ c.in_ok-below.ensures.found) c.loop-inc.invariant
