use Rattle.std.proofs.Common.{sym, ◌∙◌, ap}
use Rattle.cm_world.proofs.lemmas.trees.Walks.{begins_down}
use Rattle.cm_walk.specs.Walking.{as_station, as_named}
use Rattle.cm_walk.proofs.lemmas.ways.Placed.{first_placed}
use Rattle.cm_walk.proofs.walking.walk.Goals as goal

pub follow-requires-clause-down : goal.follow-requires-clause-down
follow-requires-clause-down g c =
    begins_down (g.V.View.rows c.args.view.now) (g.V.View.next_inc c.args.view.now) c.args.start (as_station c.in-At.station) c.begin.ensures.orderly (sym c.in_ok-station.ensures.named ∙ ap as_named c.in-At.is)

pub follow-requires-clause-placed : goal.follow-requires-clause-placed
follow-requires-clause-placed g c =
    first_placed (g.V.View.rows c.args.view.now) c.args.start (as_station c.in-At.station) (sym c.in_ok-station.ensures.named ∙ ap as_named c.in-At.is)
