use Rattle.cm_world.specs.declared.action.Finish.TheVariants as finish
use Rattle.cm_world.specs.declared.action.Outcome.TheVariants as outcome
use Rattle.realm_tests.proofs.meanwhile.doom.Goals as goal

pub end_behind_pick-requires : goal.end_behind_pick-requires
end_behind_pick-requires c = record {
  may = c.in-Ok.ensures.1 c.args.begun (finish.Other outcome.Started) c.requires;
  closes = c.in-Ok.ensures.0;
}
