use Rattle.std.proofs.Common.{sym, subst}
use Rattle.cm_world.specs.declared.action.Finish.TheVariants as finish
use Rattle.cm_world.specs.declared.action.Outcome.TheVariants as outcome
use Rattle.cm_world.specs.Step.{MayEnd}
use Rattle.cm_laws.specs.Story.{Story, world_of}
use Rattle.cm_laws.specs.Laws.{IsJoined}
use Rattle.realm_tests.proofs.meanwhile.decline_joined.Goals as goal

pub hears_nothing-requires : goal.hears_nothing-requires
hears_nothing-requires c = c.requires.joined

pub decline-requires : goal.decline-requires
decline-requires c =
    subst (λ (s : Story). MayEnd (world_of s).acts 0 c.args.begun (finish.Other outcome.Declined))
    (sym c.in-Ok.ensures) c.requires.may

pub hear-requires : goal.hear-requires
hear-requires c =
    c.decline.ensures c.args.action
    (subst (λ (s : Story). IsJoined (world_of s) 1 c.args.action) (sym c.in-Ok.ensures) c.requires.joined)
