use Rattle.std.proofs.Common.{sym}
use Rattle.cm_world.specs.Rows.{has_parent}
use Rattle.cm_walk.specs.Ahead.{is_in_set}
use Rattle.cm_walk.proofs.lemmas.descents.Behind.{left_falls}
use Rattle.cm_walk.proofs.lemmas.descents.Adding.{seen_first, seen_more, seen_all}
use Rattle.cm_walk.proofs.subtree.put_children.Goals as goal

pub next-init : goal.next-init
next-init g c = λ q. seen_first (g.V.View.rows c.args.view.now) c.args.parent q (is_in_set c.args.ahead.now q)

pub next-smaller : goal.next-smaller
next-smaller g c =
    left_falls (has_parent c.args.parent) (g.V.View.rows c.args.view.now) (g.V.View.next_inc c.args.view.now) c.in-Some.child c.next.after c.requires (sym c.in-Some.ensures)

pub next-preserved : goal.next-preserved
next-preserved g c = λ q.
    seen_more (g.V.View.rows c.args.view.now) (g.V.View.next_inc c.args.view.now) c.args.parent c.in-Some.child q c.next.after (is_in_set c.args.ahead.now q) (is_in_set c.next.ahead q) (is_in_set c.insert.new.self q) c.requires (sym c.in-Some.ensures) (c.next.invariant q) (c.in_ok-insert.ensures.updates.0 q)

pub returns : goal.returns
returns g c = λ q.
    seen_all (g.V.View.rows c.args.view.now) c.args.parent q c.next.after (is_in_set c.args.ahead.now q) (is_in_set c.next.ahead q) (sym c.in_default.ensures) (c.next.invariant q)
