use Rattle.cm_dynamic.proofs.lemmas.graphs.Walking.{grows_on, putting_first, putting_more, putting_ends}
use Rattle.cm_dynamic.proofs.onward.put_gives.Goals as goal

pub loop-give-init : goal.loop-give-init
loop-give-init g c = putting_first (g.V.View.rows c.args.view.now) c.args.parent c.args.name.now c.args.gives.now c.args.seen.now c.args.ahead.now

pub returns-then-not-branch-clause-grows : goal.returns-then-not-branch-clause-grows
returns-then-not-branch-clause-grows g c =
    grows_on c.args.seen.now c.args.ahead.now c.loop-give.seen c.loop-give.ahead c.put_give.new.seen c.put_give.new.ahead c.loop-give.invariant.grows c.in_ok-put_give.ensures.grows

pub loop-give-preserved : goal.loop-give-preserved
loop-give-preserved g c =
    putting_more (g.V.View.rows c.args.view.now) c.args.parent c.args.name.now c.args.gives.now c.loop-give.give-index c.give-item.result c.args.seen.now c.args.ahead.now c.loop-give.seen c.loop-give.ahead c.put_give.new.seen c.put_give.new.ahead c.loop-give-test.true c.give-item.is c.loop-give.invariant (c.in_ok-put_give.ensures.past c.if-not-branch.false) c.in_ok-put_give.ensures.grows

pub returns-clause-past : goal.returns-clause-past
returns-clause-past g c = λ told.
    putting_ends (g.V.View.rows c.args.view.now) c.args.parent c.args.name.now c.args.gives.now c.loop-give.give-index c.args.seen.now c.args.ahead.now c.loop-give.seen c.loop-give.ahead c.loop-give-test.false c.loop-give.invariant

pub returns-clause-grows : goal.returns-clause-grows
returns-clause-grows g c = c.loop-give.invariant.grows
