use Rattle.cm_world.specs.declared.event.Event.TheVariants as event
use Rattle.cm_manager.specs.Runs.{RetriesEvent}
use Rattle.cm_manager.proofs.lemmas.callers.CallerRuns.{runs_as}
use Rattle.cm_manager.proofs.caller.Caller.find_named.Goals as goal

pub returns : goal.returns
returns g c =
    runs_as (λ f n a b. RetriesEvent f n (event.Find c.args.moniker.now) a b c.try_event.result) _ _ _ (λ f n a b way. (c.try_event.result, way, c.found.ensures)) c.try_event.ensures
