use Rattle.cm_world.proofs.lemmas.examples.Routes.{transitional_meets_void, optional_fails, required_passes}
use Rattle.cm_world.proofs.laws.judges_availability.Goals as goal

pub returns : goal.returns
returns c = record { less = transitional_meets_void; more = optional_fails; passed = required_passes }
