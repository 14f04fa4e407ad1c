use Rattle.std.proofs.Common.{sym, ◌∙◌, ap, subst}
use Rattle.cm_world.specs.declared.event.Event.TheVariants as event
use Rattle.cm_world.specs.Legal.{IsStep}
use Rattle.cm_laws.specs.Story.{world_of, entry_of}
use Rattle.cm_steps.proofs.lemmas.steps.Stepping.{sound_in}
use Rattle.cm_steps.proofs.lemmas.steps.Rooted.{root_in}
use Rattle.cm_steps.proofs.realm.Realm.find_at.Goals as goal

pub found-requires-clause-orderly : goal.found-requires-clause-orderly
found-requires-clause-orderly c = (sound_in c.trees_stay_sound.ensures.sound c.self.inside c.self.invariant).orderly

pub found-requires-clause-root : goal.found-requires-clause-root
found-requires-clause-root c = root_in c.self.inside c.self.invariant

pub tell-requires-clause-step : goal.tell-requires-clause-step
tell-requires-clause-step c =
    subst (λ w. IsStep w (entry_of c.args.caller (event.Find (record { parts = c.args.moniker.parts })) c.in_ok-reply.reply)) (sym (ap world_of (sym c.self.view_is) ∙ c.self.invariant.stands.world))
    (record { enabled = tt; allowed = c.in_ok-reply.ensures })
