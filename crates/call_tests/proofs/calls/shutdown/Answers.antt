use Rattle.call_tests.proofs.calls.shutdown.Goals as goal

pub returns : goal.returns
returns g c = c.shutdown.ensures.performs.same.lock
