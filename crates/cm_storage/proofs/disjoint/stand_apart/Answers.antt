use Rattle.cm_storage.proofs.lemmas.Below.{places_apart}
use Rattle.cm_storage.proofs.disjoint.stand_apart.Goals as goal

pub returns : goal.returns
returns g c = λ p q a b first second owner.
    places_apart (g.V.View.rows c.args.view.now) (g.V.View.next_inc c.args.view.now) (g.V.View.builtins c.args.view.now) c.args.inc c.args.other p q a b c.read_names.ensures.orderly c.read_names.ensures.named c.read_names-2.ensures.named first second owner
