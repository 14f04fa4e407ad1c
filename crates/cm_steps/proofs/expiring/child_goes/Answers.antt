use Rattle.std.proofs.Common.{sym, ◌∙◌}
use Rattle.cm_world.specs.Rows.{has_parent}
use Rattle.cm_walk.proofs.lemmas.descents.Behind.{left_falls}
use Rattle.cm_steps.proofs.lemmas.expiries.Dooming.{up_first}
use Rattle.cm_steps.proofs.lemmas.expiries.Goers.{still_more, none_left, child_found}
use Rattle.cm_steps.proofs.expiring.child_goes.Goals as goal

pub next-init : goal.next-init
next-init g c = up_first c.args.inc (g.V.View.rows c.args.view.now)

pub next-smaller : goal.next-smaller
next-smaller g c =
    left_falls (has_parent c.args.inc) (g.V.View.rows c.args.view.now) (g.V.View.next_inc c.args.view.now) c.in-Some.child c.next.after c.requires.orderly (sym c.in-Some.ensures)

pub next-preserved : goal.next-preserved
next-preserved g c =
    still_more c.args.inc c.next.after (g.V.View.rows c.args.view.now) (g.V.View.next_inc c.args.view.now) c.in-Some.child c.requires.orderly (sym c.in-Some.ensures) c.next.invariant
    (sym c.may_go.ensures ∙ c.if-may_go.false)

pub returns-then-may_go : goal.returns-then-may_go
returns-then-may_go g c =
    child_found c.args.inc c.next.after (g.V.View.rows c.args.view.now) (g.V.View.next_inc c.args.view.now) c.in-Some.child c.requires.orderly (sym c.in-Some.ensures)
    (sym c.may_go.ensures ∙ c.if-may_go.true)

pub returns : goal.returns
returns g c =
    none_left c.args.inc c.next.after (g.V.View.rows c.args.view.now) (sym c.in_default.ensures) c.next.invariant
