use Rattle.cm_walk.proofs.lemmas.descents.Descending.{descends_first, descends_more, descends_less, descends_all}
use Rattle.cm_walk.proofs.subtree.rows_below.Goals as goal

pub next-init : goal.next-init
next-init g c =
    descends_first (g.V.View.rows c.args.view.now) (g.V.View.next_inc c.args.view.now) c.args.top c.new-found.result.items c.in_ok-ahead.ahead c.alone.ensures.orderly c.new-found.ensures.items c.in_ok-ahead.ensures.alone

pub next-preserved : goal.next-preserved
next-preserved g c =
    descends_more (g.V.View.rows c.args.view.now) (g.V.View.next_inc c.args.view.now) c.args.top c.in-Some.inc c.next.found.items c.push.new.self.items c.next.ahead c.pop_first.new.self c.put_children.new.ahead c.next.invariant c.in-Some.ensures.member c.in-Some.ensures.least c.in-Some.ensures.updates.0 c.in_ok-put_children.ensures c.in_ok-push.ensures.items

pub next-smaller : goal.next-smaller
next-smaller g c =
    descends_less (g.V.View.rows c.args.view.now) (g.V.View.next_inc c.args.view.now) c.args.top c.in-Some.inc c.next.found.items c.push.new.self.items c.put_children.new.ahead (next-preserved g c) c.in_ok-push.ensures.items

pub returns-clause-found : goal.returns-clause-found
returns-clause-found g c =
    descends_all (g.V.View.rows c.args.view.now) (g.V.View.next_inc c.args.view.now) c.args.top c.next.found.items c.next.ahead c.next.invariant c.in_default.ensures.variant.1
