use Rattle.cm_order.proofs.lemmas.levels.Glancing.{free_unlisted}
use Rattle.cm_order.proofs.clearing.is_free_child.Goals as goal

pub returns : goal.returns
returns g c = record {
  free = λ free.
      free_unlisted (g.V.View.rows c.args.view.now) (g.V.View.next_inc c.args.view.now) c.requires.sound c.args.parent c.args.known.now c.requires.known c.args.child (c.is_child.ensures c.if-not-is_child.false) (λ z. c.is_free.ensures z free);
  none = λ free z. c.is_free.ensures z free;
}
