use Rattle.std.proofs.Common.{sym, ◌∙◌}
use Rattle.cm_dynamic.proofs.lemmas.graphs.Walking.{grows_none, past_none, past_some}
use Rattle.cm_dynamic.proofs.onward.put_child.Goals as goal

pub returns-then-is_same-clause-grows : goal.returns-then-is_same-clause-grows
returns-then-is_same-clause-grows g c = grows_none c.args.seen.now c.args.ahead.now

pub returns-in-None-clause-past : goal.returns-in-None-clause-past
returns-in-None-clause-past g c = λ told.
    past_none (g.V.View.rows c.args.view.now) c.args.parent c.args.name.now c.args.child.now c.args.seen.now (sym c.is_same.ensures ∙ c.if-is_same.false) (sym c.child.ensures ∙ c.in-None.is)

pub returns-in-None-clause-grows : goal.returns-in-None-clause-grows
returns-in-None-clause-grows g c = grows_none c.args.seen.now c.args.ahead.now

pub returns-in_ok-put-in-Some-clause-past : goal.returns-in_ok-put-in-Some-clause-past
returns-in_ok-put-in-Some-clause-past g c = λ told.
    past_some (g.V.View.rows c.args.view.now) c.args.parent c.in-Some.inc c.args.name.now c.args.child.now c.put.new.seen (sym c.is_same.ensures ∙ c.if-is_same.false) (sym c.in-Some.ensures) c.in_ok-put-in-Some.ensures.here
