use Rattle.std.proofs.Common.{refl}
use Rattle.cm_world.specs.declared.action.Finish.TheVariants as finish
use Rattle.cm_world.specs.declared.action.Outcome.TheVariants as outcome
use Rattle.realm_tests.proofs.meanwhile.join_and_decline.Goals as goal

pub join-requires : goal.join-requires
join-requires c = c.in-Ok.ensures (finish.Other outcome.Declined) refl tt
