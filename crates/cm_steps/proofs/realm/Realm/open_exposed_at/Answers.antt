use Rattle.std.proofs.Common.{sym, ◌∙◌, ap, subst}
use Rattle.cm_world.specs.declared.event.Event.TheVariants as event
use Rattle.cm_world.specs.Legal.{IsStep}
use Rattle.cm_world.specs.declared.route.Start.TheVariants as begin
use Rattle.cm_world.specs.Openings as openings
use Rattle.cm_laws.specs.Story.{world_of, entry_of}
use Rattle.cm_steps.proofs.realm.Realm.open_exposed_at.Goals as goal

pub tell-requires-clause-step : goal.tell-requires-clause-step
tell-requires-clause-step c =
    subst (λ w. IsStep w (entry_of c.args.caller (event.OpenExposed c.args.inc c.in_ok-name.name) c.in_ok-reply.reply)) (sym (ap world_of (sym c.self.view_is) ∙ c.self.invariant.stands.world))
    (record { enabled = tt; allowed = subst (λ builtins. openings.WalksUnless c.self.inside.table.rows builtins (begin.ExposeAt c.args.inc c.in_ok-name.name) (openings.opened c.self.inside.table.rows) (openings.unready c.self.inside.table.rows c.args.inc) c.in_ok-reply.reply) c.self.invariant.builtins c.in_ok-reply.ensures })
