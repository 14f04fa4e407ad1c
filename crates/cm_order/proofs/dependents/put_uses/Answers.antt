use Rattle.cm_order.specs.Glances.{is_used_from, is_used_of}
use Rattle.cm_order.proofs.lemmas.levels.Real.{adding_first, adding_more, adding_ends}
use Rattle.cm_order.proofs.lemmas.names.Sources.{putting_first, putting_more, putting_ends}
use Rattle.cm_order.proofs.dependents.put_uses.Goals as goal

pub loop-usage-init : goal.loop-usage-init
loop-usage-init g c = (
  putting_first c.args.parent (is_used_from (g.V.View.rows c.args.view.now) c.args.parent) c.args.uses.now c.args.parent c.args.edges.now.clients,
  adding_first (g.V.View.rows c.args.view.now) c.args.parent (is_used_of (g.V.View.rows c.args.view.now) c.args.parent) c.args.uses.now c.args.parent c.args.edges.now.clients,
)

pub loop-usage-preserved : goal.loop-usage-preserved
loop-usage-preserved g c = (
  putting_more c.args.parent (is_used_from (g.V.View.rows c.args.view.now) c.args.parent) c.args.uses.now c.args.parent c.loop-usage.usage-index c.usage-item.result c.args.edges.now.clients c.loop-usage.edges.clients c.put_found.new.edges.clients c.loop-usage-test.true c.usage-item.is c.loop-usage.invariant.0 c.in_ok-put_found.ensures.kept
      (λ x other comes. c.in_ok-put_found.ensures.here x (c.strong_child-source.ensures.found x other comes)),
  adding_more (g.V.View.rows c.args.view.now) c.args.parent (is_used_of (g.V.View.rows c.args.view.now) c.args.parent) c.args.uses.now c.args.parent c.loop-usage.usage-index c.usage-item.result c.args.edges.now.clients c.loop-usage.edges.clients c.put_found.new.edges.clients c.loop-usage-test.true c.usage-item.is c.loop-usage.invariant.1
      (λ more are. c.in_ok-put_found.ensures.real (g.V.View.rows c.args.view.now) c.args.parent (λ x is. more x (c.strong_child-source.ensures.real x is)) are),
)

pub returns : goal.returns
returns g c = record {
  all = putting_ends c.args.parent (is_used_from (g.V.View.rows c.args.view.now) c.args.parent) c.args.uses.now c.args.parent c.loop-usage.usage-index c.args.edges.now.clients c.loop-usage.edges.clients c.loop-usage-test.false c.loop-usage.invariant.0;
  real = adding_ends (g.V.View.rows c.args.view.now) c.args.parent (is_used_of (g.V.View.rows c.args.view.now) c.args.parent) c.args.uses.now c.args.parent c.loop-usage.usage-index c.args.edges.now.clients c.loop-usage.edges.clients c.loop-usage-test.false c.loop-usage.invariant.1;
}
