use Rattle.std.proofs.Common.{sym, ◌∙◌}
use Rattle.cm_walk.proofs.lemmas.ways.Monikers.{loop-lower}
use Rattle.cm_trees.proofs.trees.Tops.{goes_up, goes_no_further}
use Rattle.cm_order.proofs.lemmas.searches.Upward.{stays_without, first_upward}
use Rattle.cm_order.proofs.above.outermost_by.Goals as goal

pub returns-then-stays_open : goal.returns-then-stays_open
returns-then-stays_open g c = stays_without (g.V.View.rows c.args.view.now) c.args.inc (c.stays_open.ensures c.if-stays_open.true)

pub up-init : goal.up-init
up-init g c =
    first_upward (g.V.View.rows c.args.view.now) (g.V.View.next_inc c.args.view.now) c.requires.orderly c.args.inc c.args.facts c.climb_by-first.result.at c.climb_by-first.result.found c.requires.facts c.climb_by-first.ensures.parent c.climb_by-first.ensures.closing

pub up-smaller : goal.up-smaller
up-smaller g c =
    loop-lower (g.V.View.rows c.args.view.now) (g.V.View.next_inc c.args.view.now) c.in-Some.here c.up.at c.climb-further.result.at c.requires.orderly c.in-Some.is c.climb-further.ensures.parent

pub up-preserved : goal.up-preserved
up-preserved g c =
    goes_up (g.V.View.rows c.args.view.now) (g.V.View.next_inc c.args.view.now) c.requires.orderly _ c.in-Some.here c.up.at c.climb-further.result.at c.up.found c.climb-further.result.found c.in-Some.is c.climb-further.ensures.parent c.climb-further.ensures.closing c.up.invariant

pub returns-then-not-closing_above : goal.returns-then-not-closing_above
returns-then-not-closing_above g c =
    goes_no_further (g.V.View.rows c.args.view.now) _ c.in-Some.here c.up.at c.up.found c.in-Some.is (sym c.closing_above.ensures ∙ c.if-not-closing_above.true) c.up.invariant
