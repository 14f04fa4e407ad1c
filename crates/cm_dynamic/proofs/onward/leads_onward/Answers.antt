use Rattle.cm_dynamic.proofs.lemmas.graphs.Walking.{walking_first, walking_more, walking_ends}
use Rattle.cm_dynamic.proofs.onward.leads_onward.Goals as goal

pub loop-init : goal.loop-init
loop-init g c =
    walking_first (g.V.View.rows c.args.view.now) c.args.parent c.args.name.now c.args.gives.now c.new-seen.result c.new-ahead.result c.put_gives.new.seen c.put_gives.new.ahead c.new-seen.ensures.empty c.in_ok-put_gives.ensures.grows (c.in_ok-put_gives.ensures.past c.if-not-branch.false)

pub returns-in_default : goal.returns-in_default
returns-in_default g c = λ told.
    walking_ends (g.V.View.rows c.args.view.now) c.args.parent c.args.name.now c.args.gives.now c.loop.seen c.loop.ahead c.loop.invariant c.in_default.ensures.variant.1

pub loop-preserved : goal.loop-preserved
loop-preserved g c =
    walking_more (g.V.View.rows c.args.view.now) c.args.parent c.in-Some.inc c.args.name.now c.args.gives.now c.loop.seen c.loop.ahead c.pop_first.new.self c.put_row.new.seen c.put_row.new.ahead c.loop.invariant c.in-Some.ensures.updates.0 (c.in_ok-put_row.ensures.past c.if-not-branch-2.false) c.in_ok-put_row.ensures.grows
