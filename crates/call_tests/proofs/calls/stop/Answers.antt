use Rattle.call_tests.proofs.calls.stop.Goals as goal

pub returns : goal.returns
returns g c = c.stop.ensures.performs.same.lock
