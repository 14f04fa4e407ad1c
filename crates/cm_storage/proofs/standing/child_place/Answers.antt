use Rattle.cm_storage.proofs.lemmas.Knowing.{child_placed}
use Rattle.cm_storage.proofs.standing.child_place.Goals as goal

pub returns : goal.returns
returns g c = child_placed (g.V.View.rows c.args.view.now) (g.V.View.next_inc c.args.view.now) c.args.inc c.place.result c.place.ensures.orderly c.place.ensures.parent c.place.ensures.name
