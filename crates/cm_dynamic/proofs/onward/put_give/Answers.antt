use Rattle.std.proofs.Common.{IsTrue, sym, ◌∙◌}
use Rattle.std.proofs.lemmas.Result.{IfOk-weaker}
use Rattle.cm_dynamic.specs.Onward.{is_past, leads_past}
use Rattle.cm_dynamic.proofs.lemmas.graphs.Walking.{grows_none, past_unbound, past_child}
use Rattle.cm_dynamic.proofs.onward.put_give.Goals as goal

pub returns-then-not-binds_created-clause-past : goal.returns-then-not-binds_created-clause-past
returns-then-not-binds_created-clause-past g c = λ told.
    past_unbound (g.V.View.rows c.args.view.now) c.args.parent c.args.name.now c.args.seen.now c.args.give.now (sym c.binds_created.ensures ∙ c.if-not-binds_created.true)

pub returns-then-not-binds_created-clause-grows : goal.returns-then-not-binds_created-clause-grows
returns-then-not-binds_created-clause-grows g c = grows_none c.args.seen.now c.args.ahead.now

pub returns-in-Child-clause-past : goal.returns-in-Child-clause-past
returns-in-Child-clause-past g c =
    IfOk-weaker c.put_child.result (λ told. IsTrue told → IsTrue (is_past (g.V.View.rows c.args.view.now) c.args.parent c.args.name.now c.put_child.new.seen c.in-Child.child)) (λ told. IsTrue told → IsTrue (leads_past (g.V.View.rows c.args.view.now) c.args.parent c.args.name.now c.put_child.new.seen c.args.give.now))
    (λ told past is. past_child (g.V.View.rows c.args.view.now) c.args.parent c.args.name.now c.in-Child.child c.put_child.new.seen c.args.give.now c.in-Child.is (past is))
    c.put_child.ensures.past
