use Rattle.std.proofs.Common.{◌==◌}
use Rattle.cm_world.specs.declared.row.Row.{Row}
use Rattle.cm_walk.proofs.lemmas.ways.Monikers.{loop-lower}
use Rattle.cm_walk.proofs.lemmas.ways.Up.{no_row, no_mark_here, mark_found, number_hit, number_missed, parent_told}
use Rattle.cm_walk.proofs.above.is_below.Goals as goal

pub up-smaller : goal.up-smaller
up-smaller g c =
    let rows = g.V.View.rows c.args.view.now in
    loop-lower rows (g.V.View.next_inc c.args.view.now) c.in-Some.here c.up.at c.in-Some-facts.facts.parent c.facts.ensures.orderly c.in-Some.is (parent_told rows c.in-Some.here c.in-Some-facts.facts c.in-Some-facts.ensures.facts)

pub up-preserved : goal.up-preserved
up-preserved g c =
    let rows = g.V.View.rows c.args.view.now in
    no_mark_here _ (λ (r : Row). r.inc == c.args.top) rows (g.V.View.next_inc c.args.view.now) c.in-Some.here c.up.at c.in-Some-facts.facts.parent c.facts.ensures.orderly c.in-Some.is (parent_told rows c.in-Some.here c.in-Some-facts.facts c.in-Some-facts.ensures.facts)
    (number_missed rows c.in-Some.here c.args.top c.in-Some-facts.facts c.in-Some-facts.ensures.facts c.if-here-top.false) c.up.invariant

pub returns-in_default-facts : goal.returns-in_default-facts
returns-in_default-facts g c =
    no_row _ (λ (r : Row). r.inc == c.args.top) (g.V.View.rows c.args.view.now) c.in-Some.here c.up.at c.up.invariant c.in-Some.is c.in_default-facts.ensures.facts

pub returns-then-here-top : goal.returns-then-here-top
returns-then-here-top g c =
    let rows = g.V.View.rows c.args.view.now in
    mark_found _ (λ (r : Row). r.inc == c.args.top) rows (g.V.View.next_inc c.args.view.now) c.in-Some.here c.up.at c.up.invariant c.facts.ensures.orderly c.in-Some.is
    (number_hit rows c.in-Some.here c.args.top c.in-Some-facts.facts c.in-Some-facts.ensures.facts c.if-here-top.true)
