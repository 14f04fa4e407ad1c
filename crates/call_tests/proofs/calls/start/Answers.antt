use Rattle.call_tests.proofs.calls.start.Goals as goal

pub returns : goal.returns
returns g c = c.start.ensures.performs.same.lock
