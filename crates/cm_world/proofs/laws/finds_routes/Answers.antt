use Rattle.cm_world.proofs.lemmas.examples.Routes.{route_is_legal, finds_no_other, unoffered_is_legal, unexposed_is_legal}
use Rattle.cm_world.proofs.laws.finds_routes.Goals as goal

pub returns : goal.returns
returns c = record {
  found = route_is_legal;
  no_other = finds_no_other;
  no_offer = unoffered_is_legal;
  no_expose = unexposed_is_legal;
}
