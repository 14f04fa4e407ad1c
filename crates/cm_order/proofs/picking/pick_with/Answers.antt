use Rattle.std.proofs.Common.{sym}
use Rattle.cm_order.proofs.lemmas.searches.Answering.{untold_shut, none_left, own_top}
use Rattle.cm_order.proofs.picking.pick_with.Goals as goal

pub returns-in_default-clause-picked : goal.returns-in_default-clause-picked
returns-in_default-clause-picked g c =
    untold_shut (g.V.View.rows c.args.view.now) (g.V.View.next_inc c.args.view.now) c.requires.sound c.args.target c.in_default.ensures.facts

pub returns-in_default-outermost_by-clause-picked : goal.returns-in_default-outermost_by-clause-picked
returns-in_default-outermost_by-clause-picked g c =
    none_left (g.V.View.rows c.args.view.now) (g.V.View.next_inc c.args.view.now) c.requires.sound c.args.target c.requires.closing (sym c.in_default-outermost_by.ensures)

pub quick-requires-clause-top : goal.quick-requires-clause-top
quick-requires-clause-top g c =
    own_top (g.V.View.rows c.args.view.now) (g.V.View.next_inc c.args.view.now) c.requires.sound c.args.target c.in-Some-outermost_by.top (sym c.in-Some-outermost_by.ensures)

pub search-requires-clause-top : goal.search-requires-clause-top
search-requires-clause-top g c =
    own_top (g.V.View.rows c.args.view.now) (g.V.View.next_inc c.args.view.now) c.requires.sound c.args.target c.in-Some-outermost_by.top (sym c.in-Some-outermost_by.ensures)

pub returns-then-branch-clause-plan : goal.returns-then-branch-clause-plan
returns-then-branch-clause-plan g c = c.finish.ensures (g.V.View.rows c.args.view.now) c.requires.plan
