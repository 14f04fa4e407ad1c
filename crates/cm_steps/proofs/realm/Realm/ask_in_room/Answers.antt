use Rattle.std.proofs.Common.{sym, ◌∙◌, ap, subst}
use Rattle.cm_world.specs.declared.event.Event.TheVariants as event
use Rattle.cm_world.specs.Legal.{IsStep}
use Rattle.cm_laws.specs.Story.{world_of, entry_of}
use Rattle.cm_steps.proofs.realm.Realm.ask_in_room.Goals as goal

pub tell-requires-clause-step : goal.tell-requires-clause-step
tell-requires-clause-step c =
    subst (λ w. IsStep w (entry_of c.args.caller (event.Show c.args.inc) c.in_ok-reply-in-Show.reply)) (sym (ap world_of (sym c.self.view_is) ∙ c.self.invariant.stands.world))
    (record { enabled = tt; allowed = c.in_ok-reply-in-Show.ensures })

pub survey_told-requires : goal.survey_told-requires
survey_told-requires c = c.self-in-Survey.invariant.told

pub tell-requires-in-Survey-clause-step : goal.tell-requires-in-Survey-clause-step
tell-requires-in-Survey-clause-step c =
    subst (λ w. IsStep w (entry_of c.args.caller (event.Survey c.args.inc) c.in_ok-reply-in-Survey.reply)) (sym c.self-in-Survey.invariant.stands.world)
    (record { enabled = tt; allowed = c.in_ok-reply-in-Survey.ensures.reply })
