use Rattle.call_tests.proofs.calls.events.Goals as goal

pub returns : goal.returns
returns g c = c.events.ensures.performs.same.lock
