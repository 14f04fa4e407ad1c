use Rattle.std.proofs.Common.{subst}
use Rattle.cm_world.specs.World.{start}
use Rattle.cm_world.specs.Legal.{Legal}
use Rattle.cm_laws.specs.Story.{Story, IsLegal}
use Rattle.cm_steps.proofs.realm.Realm.entries.Goals as goal

pub returns-clause-legal : goal.returns-clause-legal
unfolding IsLegal
returns-clause-legal c = subst (λ (s : Story). Legal (start s.frame) s.entries) c.self.view_is c.self.invariant.stands.legal
