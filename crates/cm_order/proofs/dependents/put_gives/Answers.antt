use Rattle.std.specs.Cmp.{second_so}
use Rattle.cm_decl.specs.Graph.{is_from_child}
use Rattle.cm_order.specs.Glances.{is_given_from}
use Rattle.cm_order.proofs.lemmas.levels.Real.{adding_first, adding_more, adding_ends}
use Rattle.cm_order.proofs.lemmas.names.Sources.{putting_first, putting_more, putting_ends}
use Rattle.cm_order.proofs.dependents.put_gives.Goals as goal

pub loop-give-init : goal.loop-give-init
loop-give-init g c = (
  putting_first c.args.parent (is_given_from (g.V.View.rows c.args.view.now) c.args.parent) c.args.gives.now c.args.child c.args.edges.now.clients,
  adding_first (g.V.View.rows c.args.view.now) c.args.parent (is_given_from (g.V.View.rows c.args.view.now) c.args.parent) c.args.gives.now c.args.child c.args.edges.now.clients,
)

pub loop-give-preserved : goal.loop-give-preserved
loop-give-preserved g c = (
  putting_more c.args.parent (is_given_from (g.V.View.rows c.args.view.now) c.args.parent) c.args.gives.now c.args.child c.loop-give.give-index c.give-item.result c.args.edges.now.clients c.loop-give.edges.clients c.put_found.new.edges.clients c.loop-give-test.true c.give-item.is c.loop-give.invariant.0 c.in_ok-put_found.ensures.kept
      (λ x other comes. c.in_ok-put_found.ensures.here x (c.strong_child-source.ensures.found x other comes)),
  adding_more (g.V.View.rows c.args.view.now) c.args.parent (is_given_from (g.V.View.rows c.args.view.now) c.args.parent) c.args.gives.now c.args.child c.loop-give.give-index c.give-item.result c.args.edges.now.clients c.loop-give.edges.clients c.put_found.new.edges.clients c.loop-give-test.true c.give-item.is c.loop-give.invariant.1
      (λ more are. c.in_ok-put_found.ensures.real (g.V.View.rows c.args.view.now) c.args.parent (λ x is. more x (second_so (is_from_child c.give-item.result.from) (is_given_from (g.V.View.rows c.args.view.now) c.args.parent x c.give-item.result) (c.strong_child-source.ensures.real x is))) are),
)

pub returns : goal.returns
returns g c = record {
  all = putting_ends c.args.parent (is_given_from (g.V.View.rows c.args.view.now) c.args.parent) c.args.gives.now c.args.child c.loop-give.give-index c.args.edges.now.clients c.loop-give.edges.clients c.loop-give-test.false c.loop-give.invariant.0;
  kept = c.loop-give.invariant.0.kept;
  real = adding_ends (g.V.View.rows c.args.view.now) c.args.parent (is_given_from (g.V.View.rows c.args.view.now) c.args.parent) c.args.gives.now c.args.child c.loop-give.give-index c.args.edges.now.clients c.loop-give.edges.clients c.loop-give-test.false c.loop-give.invariant.1;
}
