use Rattle.std.proofs.Common.{sym, ◌∙◌}
use Rattle.cm_trees.proofs.levels.Kids.{next_kid}
use Rattle.cm_order.proofs.lemmas.levels.Gathering.{room_less}
use Rattle.cm_order.proofs.lemmas.names.Sources.{covering_first, covering_more, covering_ends}
use Rattle.cm_order.proofs.dependents.put_children.Goals as goal

pub loop-child-init : goal.loop-child-init
loop-child-init g c = (covering_first (g.V.View.rows c.args.view.now) c.args.parent c.args.offered.now c.args.edges.now.clients, λ offered are. are)

pub loop-child-smaller : goal.loop-child-smaller
loop-child-smaller g c =
    room_less (g.V.View.rows c.args.view.now) (g.V.View.next_inc c.args.view.now) c.args.parent c.in-Some.child c.loop-child.behind c.requires.orderly c.in-Some.ensures

pub loop-child-preserved : goal.loop-child-preserved
loop-child-preserved g c = (
  covering_more (g.V.View.rows c.args.view.now) (g.V.View.next_inc c.args.view.now) c.requires c.args.parent c.in-Some.child c.args.offered.now c.loop-child.behind c.args.edges.now.clients c.loop-child.edges.clients c.put_child.new.edges.clients c.loop-child.invariant.0 c.in-Some.ensures c.in_ok-put_child.ensures.put c.in_ok-put_child.ensures.kept,
  λ offered are.
      c.in_ok-put_child.ensures.real c.requires (next_kid (g.V.View.rows c.args.view.now) (g.V.View.next_inc c.args.view.now) c.requires.orderly c.args.parent c.loop-child.behind c.in-Some.child (sym c.in-Some.ensures)).0 offered (c.loop-child.invariant.1 offered are),
)

pub returns : goal.returns
returns g c = record {
  all = covering_ends (g.V.View.rows c.args.view.now) c.args.parent c.args.offered.now c.loop-child.behind c.args.edges.now.clients c.loop-child.edges.clients c.loop-child.invariant.0 (sym c.in_default.is ∙ c.next_child.ensures);
  kept = c.loop-child.invariant.0.kept;
  real = c.loop-child.invariant.1;
}
