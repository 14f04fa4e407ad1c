use Rattle.std.proofs.Common.{sym, ◌∙◌, ap, subst}
use Rattle.cm_world.specs.declared.event.Event.TheVariants as event
use Rattle.cm_world.specs.Legal.{IsStep}
use Rattle.cm_laws.specs.Story.{world_of, entry_of}
use Rattle.cm_steps.proofs.realm.Realm.step_in_room.Goals as goal

pub tell-requires-clause-step : goal.tell-requires-clause-step
tell-requires-clause-step c =
    subst (λ w. IsStep w (entry_of c.args.caller (event.Reap c.in-Reap.inc) c.in_ok-reply-in-Reap.reply)) (sym (ap world_of (sym c.self.view_is) ∙ c.self.invariant.stands.world))
    (record { enabled = tt; allowed = c.in_ok-reply-in-Reap.ensures })
