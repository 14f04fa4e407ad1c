use Rattle.std.proofs.Common.{refl}
use Rattle.cm_world.specs.declared.action.Finish.TheVariants as finish
use Rattle.cm_world.specs.declared.action.Outcome.TheVariants as outcome
use Rattle.realm_tests.proofs.meanwhile.doom_while_starting.Goals as goal

pub doom-requires : goal.doom-requires
doom-requires c = c.in-Ok.ensures (finish.Other outcome.Started) refl tt
