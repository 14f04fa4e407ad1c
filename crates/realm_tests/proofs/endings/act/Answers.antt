use Rattle.cm_world.specs.declared.action.Finish.TheVariants as finish
use Rattle.realm_tests.proofs.endings.act.Goals as goal

pub end-requires : goal.end-requires
end-requires c = record { may = c.in-Ok.ensures (finish.Other c.args.outcome) c.requires tt }
