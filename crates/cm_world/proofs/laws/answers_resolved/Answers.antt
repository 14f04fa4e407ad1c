use Rattle.std.proofs.Common.{refl, [], ◌∷◌}
use Rattle.cm_world.specs.declared.route.Why.TheVariants as why
use Rattle.cm_world.specs.declared.route.Walked.TheVariants as walked
use Rattle.cm_world.specs.Stations.{end_station}
use Rattle.cm_world.specs.After.{after}
use Rattle.cm_world.specs.Examples.{capability_hop, x_expose_hop, s_path}
use Rattle.cm_world.proofs.laws.answers_resolved.Goals as goal

pub returns : goal.returns
unfolding after
returns c = record {
  resolve = refl;
  client = refl;
  unused = (walked.NoSuchUse, refl, refl);
  exposed = (walked.Given _, record { rest = end_station capability_hop s_path ∷ []; chain = (refl, tt); decided = (refl, refl) }, refl);
  unexposed = (walked.Failed x_expose_hop why.NoExpose, refl, refl);
  static_child = refl;
  root = refl;
  closing = refl;
  create = refl;
  listing = refl;
  purge = refl;
  show = refl;
  gone = refl;
  survey = refl;
  exited = refl;
  tail = refl;
}
