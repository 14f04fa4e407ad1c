use Rattle.std.proofs.Common.{sym, ◌∙◌}
use Rattle.cm_trees.proofs.levels.Kids.{next_kid}
use Rattle.cm_order.proofs.lemmas.levels.Gathering.{room_less}
use Rattle.cm_order.proofs.lemmas.levels.Glancing.{shut_more, shut_ends}
use Rattle.cm_order.proofs.glance.shut_kids.Goals as goal

pub loop-child-smaller : goal.loop-child-smaller
loop-child-smaller g c =
    room_less (g.V.View.rows c.args.view.now) (g.V.View.next_inc c.args.view.now) c.args.inc c.in-Some.child c.loop-child.behind c.requires.sound.orderly c.in-Some.ensures

pub loop-child-preserved : goal.loop-child-preserved
loop-child-preserved g c =
    shut_more (g.V.View.rows c.args.view.now) (g.V.View.next_inc c.args.view.now) c.requires.sound c.args.inc c.in-Some.child c.loop-child.behind c.loop-child.invariant c.in-Some.ensures (sym c.in_ok-all_shut.ensures ∙ c.if-not-branch.false)

pub returns-clause-all : goal.returns-clause-all
returns-clause-all g c = λ shut. shut_ends (g.V.View.rows c.args.view.now) c.args.inc c.loop-child.behind c.loop-child.invariant (sym c.in_default.is ∙ c.next_child.ensures)

pub returns-then-not-branch-clause-left : goal.returns-then-not-branch-clause-left
returns-then-not-branch-clause-left g c = λ out. record {
  child = c.in-Some.child;
  kid = (next_kid (g.V.View.rows c.args.view.now) (g.V.View.next_inc c.args.view.now) c.requires.sound.orderly c.args.inc c.loop-child.behind c.in-Some.child (sym c.in-Some.ensures)).0;
  unshut = sym c.in_ok-all_shut.ensures ∙ c.if-not-branch.true;
}
