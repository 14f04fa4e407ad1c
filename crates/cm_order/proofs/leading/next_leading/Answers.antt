use Rattle.std.proofs.Common.{sym, ◌∙◌}
use Rattle.cm_trees.proofs.levels.Kids.{next_kid}
use Rattle.cm_order.proofs.lemmas.levels.Gathering.{room_less}
use Rattle.cm_order.proofs.lemmas.levels.Leading.{passing_on, passing_found, passing_ends}
use Rattle.cm_order.proofs.leading.next_leading.Goals as goal

pub leads_up-requires-clause-kid : goal.leads_up-requires-clause-kid
leads_up-requires-clause-kid g c = (next_kid (g.V.View.rows c.args.view.now) (g.V.View.next_inc c.args.view.now) c.requires.sound.orderly c.args.parent c.loop-child.last c.in-Some.child (sym c.in-Some.ensures)).0

pub returns-then-leads-clause-next : goal.returns-then-leads-clause-next
returns-then-leads-clause-next g c =
    passing_found (g.V.View.rows c.args.view.now) (g.V.View.next_inc c.args.view.now) c.requires.sound.orderly c.args.parent c.args.behind c.loop-child.last c.in-Some.child c.in_ok-leads.leads c.loop-child.invariant.0 c.in-Some.ensures c.in_ok-leads.ensures.leads c.if-leads.true

pub loop-child-smaller : goal.loop-child-smaller
loop-child-smaller g c =
    room_less (g.V.View.rows c.args.view.now) (g.V.View.next_inc c.args.view.now) c.args.parent c.in-Some.child c.loop-child.last c.requires.sound.orderly c.in-Some.ensures

pub loop-child-preserved : goal.loop-child-preserved
loop-child-preserved g c = (
  passing_on (g.V.View.rows c.args.view.now) (g.V.View.next_inc c.args.view.now) c.requires.sound.orderly c.args.parent c.args.behind c.loop-child.last c.in-Some.child c.in_ok-leads.leads c.loop-child.invariant.0 c.in-Some.ensures c.in_ok-leads.ensures.leads c.if-leads.false,
  c.in_ok-leads.ensures.levels,
)

pub returns-clause-next : goal.returns-clause-next
returns-clause-next g c =
    passing_ends (g.V.View.rows c.args.view.now) (g.V.View.next_inc c.args.view.now) c.requires.sound.orderly c.args.parent c.args.behind c.loop-child.last c.loop-child.invariant.0 (sym c.in_default.is ∙ c.next_child.ensures)
