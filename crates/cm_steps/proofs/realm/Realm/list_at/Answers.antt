use Rattle.std.proofs.Common.{sym, subst}
use Rattle.cm_world.specs.declared.event.Event.TheVariants as event
use Rattle.cm_world.specs.Legal.{IsStep}
use Rattle.cm_laws.specs.Story.{entry_of}
use Rattle.cm_steps.proofs.realm.Realm.list_at.Goals as goal

pub list_told-requires : goal.list_told-requires
list_told-requires c = c.self.invariant.told

pub tell-requires-clause-step : goal.tell-requires-clause-step
tell-requires-clause-step c =
    subst (λ w. IsStep w (entry_of c.args.caller (event.Listing c.args.inc c.in_ok-coll.coll) c.in_ok-reply.reply)) (sym c.self.invariant.stands.world)
    (record { enabled = tt; allowed = c.in_ok-reply.ensures.reply })
