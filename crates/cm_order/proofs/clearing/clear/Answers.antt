use Rattle.std.proofs.Common.{IsTrue, refl, sym, ◌∙◌, ap, subst}
use Rattle.cm_order.specs.Glances.{is_in_set}
use Rattle.cm_order.proofs.lemmas.levels.Clearing.{known_more}
use Rattle.cm_order.proofs.clearing.clear.Goals as goal

pub returns : goal.returns
returns c = record {
  known = λ rows p is cleared alone. c.in_ok-release_all.ensures.known rows p (known_more rows p c.args.node c.args.known.now _ is cleared alone refl c.in_ok-insert.ensures.updates.0);
  here = subst (λ s. IsTrue (is_in_set s c.args.node)) (sym c.in_ok-release_all.ensures.cleared) c.in_ok-insert.ensures.updates.1;
  more = λ z. ap (λ s. is_in_set s z) c.in_ok-release_all.ensures.cleared ∙ c.in_ok-insert.ensures.updates.0 z;
}
