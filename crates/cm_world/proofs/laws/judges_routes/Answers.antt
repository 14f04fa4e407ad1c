use Rattle.cm_world.proofs.lemmas.examples.Routes.{subdirs_are_joined, rights_are_weak, optional_meets_void, required_fails}
use Rattle.cm_world.proofs.laws.judges_routes.Goals as goal

pub returns : goal.returns
returns c = record {
  subdirs = subdirs_are_joined;
  rights = rights_are_weak;
  optional = optional_meets_void;
  required = required_fails;
}
