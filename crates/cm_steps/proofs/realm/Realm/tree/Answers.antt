use Rattle.std.proofs.Common.{sym, ap, ◌∙◌}
use Rattle.cm_world.specs.World.{World}
use Rattle.cm_laws.specs.Story.{world_of}
use Rattle.cm_steps.proofs.realm.Realm.tree.Goals as goal

pub returns-clause-rows : goal.returns-clause-rows
returns-clause-rows c = ap (λ (w : World). w.rows) (sym c.self.invariant.stands.world ∙ ap world_of c.self.view_is)

pub returns-clause-builtins : goal.returns-clause-builtins
returns-clause-builtins c = c.self.invariant.builtins ∙ ap (λ s. s.frame.builtins) c.self.view_is
