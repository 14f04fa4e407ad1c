use Rattle.std.proofs.Common.{IsTrue, sym, ◌∙◌}
use Rattle.std.specs.List.{list_all}
use Rattle.std.proofs.lemmas.Result.{IfOk-weaker}
use Rattle.cm_dynamic.specs.Onward.{leads_past, RowLeadsPast}
use Rattle.cm_dynamic.proofs.lemmas.graphs.Walking.{grows_none, row_none, row_some}
use Rattle.cm_dynamic.proofs.onward.put_row.Goals as goal

pub returns-in-None-clause-past : goal.returns-in-None-clause-past
returns-in-None-clause-past g c = λ told.
    row_none (g.V.View.rows c.args.view.now) c.args.parent c.args.inc c.args.name.now c.args.seen.now c.in-None.ensures

pub returns-in-None-clause-grows : goal.returns-in-None-clause-grows
returns-in-None-clause-grows g c = grows_none c.args.seen.now c.args.ahead.now

pub returns-in-Some-clause-past : goal.returns-in-Some-clause-past
returns-in-Some-clause-past g c =
    IfOk-weaker c.put_gives.result (λ told. IsTrue told → IsTrue (list_all (leads_past (g.V.View.rows c.args.view.now) c.args.parent c.args.name.now c.put_gives.new.seen) c.as_slice.result.now)) (λ told. IsTrue told → RowLeadsPast (g.V.View.rows c.args.view.now) c.args.parent c.args.name.now c.put_gives.new.seen c.args.inc)
    (λ told past is. row_some (g.V.View.rows c.args.view.now) c.args.parent c.args.inc c.args.name.now c.put_gives.new.seen c.in-Some.gives.now c.as_slice.result.now c.in-Some.ensures c.as_slice.ensures (past is))
    c.put_gives.ensures.past
