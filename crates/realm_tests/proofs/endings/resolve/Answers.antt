use Rattle.std.proofs.Common.{refl}
use Rattle.cm_world.specs.declared.action.Finish.TheVariants as finish
use Rattle.realm_tests.proofs.endings.resolve.Goals as goal

pub end-requires : goal.end-requires
end-requires c = record {
  may = c.in-Ok.ensures (finish.Resolved c.in-Some.prepared.absolute c.in-Some.prepared.decl) refl c.in-Some.ensures;
}
