use Rattle.cm_steps.specs.Requests.{event_of}
use Rattle.cm_manager.specs.Runs.{RetriesEvent}
use Rattle.cm_manager.proofs.lemmas.callers.CallerRuns.{CallerLoop}
use Rattle.cm_manager.proofs.caller.Caller.try_event.Given as goal

-- whatever the event comes to from here is what the whole comes to
abbrev pub invariant-loop : goal.invariant-loop
invariant-loop g l =
    CallerLoop (λ end f c a b. RetriesEvent f c (event_of l.wish) a b end) (λ end f c a b. RetriesEvent f c (event_of l.wish) a b end) l.fn.self l.self
