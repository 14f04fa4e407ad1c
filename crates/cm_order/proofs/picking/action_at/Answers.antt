use Rattle.std.proofs.Common.{subst}
use Rattle.cm_order.specs.declared.search.SearchGoal.TheVariants.{Pending}
use Rattle.cm_order.specs.Search.{IsSearched}
use Rattle.cm_order.proofs.lemmas.searches.Answering.{own_top, one_is_found, waits_found}
use Rattle.cm_order.proofs.picking.action_at.Goals as goal

pub search-requires-clause-top : goal.search-requires-clause-top
search-requires-clause-top g c =
    own_top (g.V.View.rows c.args.view.now) (g.V.View.next_inc c.args.view.now) c.requires.sound c.args.target c.args.top c.requires.top

pub unreachable-requires : goal.unreachable-requires
unreachable-requires g c =
    one_is_found (g.V.View.rows c.args.view.now) (g.V.View.next_inc c.args.view.now) c.requires.sound c.args.target c.args.top c.requires.top c.requires.undone c.requires.stuck
    (subst (IsSearched (g.V.View.rows c.args.view.now) c.args.top Pending) c.in_default.is c.in_ok-inc.ensures.found)

pub returns-clause-waits : goal.returns-clause-waits
returns-clause-waits g c =
    waits_found (g.V.View.rows c.args.view.now) (g.V.View.next_inc c.args.view.now) c.requires.sound c.args.target c.args.top c.in-Some.inc c.in-Some-pending.action c.requires.top c.requires.undone c.requires.stuck
    (subst (IsSearched (g.V.View.rows c.args.view.now) c.args.top Pending) c.in-Some.is c.in_ok-inc.ensures.found) c.in-Some-pending.ensures
