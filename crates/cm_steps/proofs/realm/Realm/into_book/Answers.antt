use Rattle.std.proofs.Common.{sym, ap, ◌∙◌}
use Rattle.cm_world.specs.World.{World}
use Rattle.cm_world.specs.Legal.{owed_by}
use Rattle.cm_laws.specs.Story.{world_of}
use Rattle.cm_steps.proofs.realm.Realm.into_book.Goals as goal

pub returns-clause-reserved : goal.returns-clause-reserved
returns-clause-reserved c = c.self.invariant.owes ∙ ap (λ (w : World). owed_by w) (sym c.self.invariant.stands.world ∙ ap world_of c.self.view_is)
