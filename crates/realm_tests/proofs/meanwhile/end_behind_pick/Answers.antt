use Rattle.std.proofs.Common.{sym, subst}
use Rattle.cm_world.specs.declared.action.Finish.TheVariants as finish
use Rattle.cm_world.specs.declared.action.Outcome.TheVariants as outcome
use Rattle.cm_world.specs.Step.{MayEnd}
use Rattle.cm_laws.specs.Story.{Story, world_of}
use Rattle.realm_tests.proofs.meanwhile.end_behind_pick.Goals as goal

pub waited_for-requires : goal.waited_for-requires
waited_for-requires c = c.requires.closes

pub end-requires : goal.end-requires
end-requires c = record {
  may =
      subst (λ (s : Story). MayEnd (world_of s).acts 0 c.args.begun (finish.Other outcome.Started))
      (sym c.in-Ok.ensures) c.requires.may;
}
